use Rattle.std.proofs.Common.{◌≡◌, ◌*◌, ◌≤◌, take}
use Rattle.amounts.specs.Value.{total_of}
use Rattle.amounts.proofs.valuing.sum.Given as goal

abbrev pub invariant-loop-entry : goal.invariant-loop-entry
invariant-loop-entry g l = (l.sum ≡ total_of g.H.Holding.counts l.annex.terms l.row (take l.entry-index l.lots)) × (l.sum ≤ 20000000000 * l.entry-index)
