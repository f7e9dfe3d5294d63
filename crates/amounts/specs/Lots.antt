-- The range of a lot, and which lots count.
use Rattle.std.specs.Prelude.{Bool, true, ◌&&◌, List, length, Some, None, Option, nat_le, nat_lt}
use Rattle.std.specs.List.{list_all}
use Rattle.annex.specs.Terms.{within}
use Rattle.amounts.specs.declared.lots.Lot.{Lot}
use Rattle.amounts.specs.declared.lots.Place.{Place}
use Rattle.amounts.specs.declared.lots.Place.TheVariants.{Home, Posted, Asked}
use Rattle.amounts.specs.declared.lots.PledgorLot.{PledgorLot}
use Rattle.amounts.specs.declared.lots.SecuredLot.{SecuredLot}
use Rattle.amounts.specs.declared.lots.SecuredLot.TheVariants.{Absent, Held, OwedBack, DeclineOwed}

-- a class is from 0 to 7, a face from 1 to 10^10
abbrev pub lot_fits : Lot → Bool
lot_fits l = nat_lt l.class 8 && within 1 10000000000 l.face

-- at the secured end what is held counts, and what is owed back does not
abbrev pub counts_at_secured : SecuredLot → Option Lot
counts_at_secured Absent = None
counts_at_secured (Held l) = Some l
counts_at_secured (OwedBack l) = None
counts_at_secured (DeclineOwed l) = Some l

-- the lot of an entry of the secured end, in any state but absent
abbrev pub lot_of : SecuredLot → Option Lot
lot_of Absent = None
lot_of (Held l) = Some l
lot_of (OwedBack l) = Some l
lot_of (DeclineOwed l) = Some l

abbrev counts_at : Place → Lot → Option Lot
counts_at Home l = None
counts_at Posted l = Some l
counts_at Asked l = None

-- at the pledgor what is posted counts, and what is asked back does not
abbrev pub counts_at_pledgor : PledgorLot → Option Lot
counts_at_pledgor x = counts_at x.place x.lot

-- the lot that counts, if any, is in range
abbrev pub counted_fits : Option Lot → Bool
counted_fits None = true
counted_fits (Some l) = lot_fits l

-- a table has at most 32 lots, and those that count are in range
abbrev pub table_fits : {H : Type 0} → (H → Option Lot) → List H → Bool
table_fits counts hs = nat_le (length hs) 32 && list_all (λ h. counted_fits (counts h)) hs
