-- The pledgor book as opened.
use Rattle.std.specs.Prelude.{◌-◌, cond, ◌&&◌, List, ◌++◌, map, length, replicate, Ok, Err, Result, nat_le}
use Rattle.refusal.specs.declared.Refusal.{Refusal}
use Rattle.refusal.specs.declared.Refusal.TheVariants as refused
use Rattle.annex.specs.declared.agreed.Annex.{Annex}
use Rattle.std.specs.List.{list_all}
use Rattle.amounts.specs.declared.lots.Lot.{Lot}
use Rattle.amounts.specs.declared.lots.Place.TheVariants.{Home}
use Rattle.amounts.specs.declared.lots.PledgorLot.{PledgorLot}
use Rattle.amounts.specs.Lots.{lot_fits}
use Rattle.day.specs.Days.{no_day}
use Rattle.pledgor.specs.declared.state.PledgorState.{PledgorState}
use Rattle.pledgor.specs.Lots.{no_lot}

-- a lot as the pledgor opens with it
abbrev pub at_home : Lot → PledgorLot
at_home l = record { place = Home; lot = l }

-- the pledgor's own lots, all home, in a table of 32
abbrev pub table : List Lot → List PledgorLot
table ls = map at_home ls ++ replicate (32 - length ls) no_lot

-- no day, and every lot home
abbrev pub opened : Annex → List Lot → PledgorState
opened a ls = record { annex = a; day = no_day; count = length ls; lots = table ls }

-- opening: 10 for a 33rd lot or one out of range
abbrev pub opens : Annex → List Lot → Result PledgorState Refusal
opens a ls = cond (nat_le (length ls) 32 && list_all lot_fits ls) (Ok (opened a ls)) (Err refused.Lot)
