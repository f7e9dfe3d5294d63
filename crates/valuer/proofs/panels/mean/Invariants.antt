use Rattle.std.proofs.Common.{◌≡◌, ◌*◌, take, pos, ◌+ℤ◌, neg_ℤ, ◌≤ℤ◌, fold}
use Rattle.valuer.proofs.panels.mean.Given as goal

abbrev pub invariant-loop-quote : goal.invariant-loop-quote
invariant-loop-quote l = (l.sum ≡ fold ◌+ℤ◌ (pos 0) (take l.quote-index l.quotes)) × (l.sum ≤ℤ pos (10000000000000 * l.quote-index)) × (neg_ℤ (pos (10000000000000 * l.quote-index)) ≤ℤ l.sum)
