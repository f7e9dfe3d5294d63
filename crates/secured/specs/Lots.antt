-- The lots at the secured end.
use Rattle.std.specs.Prelude.{ℕ, Bool, true, false, Some, None, Option, slice_index_or}
use Rattle.annex.specs.declared.terms.Terms.{Terms}
use Rattle.amounts.specs.declared.lots.Lot.{Lot}
use Rattle.amounts.specs.declared.lots.SecuredLot.{SecuredLot}
use Rattle.amounts.specs.declared.lots.SecuredLot.TheVariants.{Absent, Held, OwedBack, DeclineOwed}
use Rattle.amounts.specs.Lots.{counts_at_secured}
use Rattle.amounts.specs.Value.{lot_value, total_of}
use Rattle.annex.specs.declared.row.Row.{Row}
use Rattle.secured.specs.declared.state.SecuredState.{SecuredState}

-- the lot is not here
abbrev pub is_absent : SecuredLot → Bool
is_absent Absent = true
is_absent (Held l) = false
is_absent (OwedBack l) = false
is_absent (DeclineOwed l) = false

-- the lot is here, and nothing is owed of it
abbrev pub is_held : SecuredLot → Bool
is_held Absent = false
is_held (Held l) = true
is_held (OwedBack l) = false
is_held (DeclineOwed l) = false

-- the entry of a lot; absent past the table
abbrev pub lot_at : SecuredState → ℕ → SecuredLot
lot_at s n = slice_index_or s.lots n Absent

-- what an entry shows of the position: all but an absent lot
abbrev pub shown : SecuredLot → Option Lot
shown Absent = None
shown (Held l) = Some l
shown (OwedBack l) = Some l
shown (DeclineOwed l) = Some l

-- the position: class and face of a lot that is in it
abbrev pub position : SecuredState → ℕ → Option Lot
position s n = shown (lot_at s n)

-- the agreed terms
abbrev pub terms_of : SecuredState → Terms
terms_of s = s.annex.terms

-- V by a row
abbrev pub value_by : SecuredState → Row → ℕ
value_by s r = total_of counts_at_secured (terms_of s) r s.lots

-- V by the row last notified
abbrev pub value_now : SecuredState → ℕ
value_now s = value_by s s.row

-- the Value of a lot by the row last notified
abbrev pub worth : SecuredState → Lot → ℕ
worth s l = lot_value (terms_of s) s.row l

-- the Value of the lot of an entry, by the row last notified
abbrev pub worth_at : SecuredState → SecuredLot → ℕ
worth_at s Absent = 0
worth_at s (Held l) = worth s l
worth_at s (OwedBack l) = worth s l
worth_at s (DeclineOwed l) = worth s l
