use Rattle.std.proofs.Common.{◌≡◌, ◌++◌, map, take, drop, replicate}
use Rattle.pledgor.specs.Lots.{no_lot}
use Rattle.pledgor.specs.Opening.{at_home}
use Rattle.pledgor.proofs.opens.table.Given as goal

abbrev pub invariant-loop-at : goal.invariant-loop-at
invariant-loop-at l = l.entries ≡ map at_home (take l.at l.lots) ++ drop l.at (replicate 32 no_lot)
