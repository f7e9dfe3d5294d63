-- The lots at the pledgor end.
use Rattle.std.specs.Prelude.{ℕ, Bool, true, false, ◌&&◌, Some, None, Option, nat_lt, slice_index_or}
use Rattle.annex.specs.declared.terms.Terms.{Terms}
use Rattle.annex.specs.declared.row.Row.{Row}
use Rattle.amounts.specs.declared.lots.Lot.{Lot}
use Rattle.amounts.specs.declared.lots.Place.{Place}
use Rattle.amounts.specs.declared.lots.Place.TheVariants.{Home, Posted, Asked}
use Rattle.amounts.specs.declared.lots.PledgorLot.{PledgorLot}
use Rattle.amounts.specs.Lots.{counts_at_pledgor}
use Rattle.amounts.specs.Value.{total_of}
use Rattle.pledgor.specs.declared.state.PledgorState.{PledgorState}

-- the lot is not posted
abbrev pub is_home : Place → Bool
is_home Home = true
is_home Posted = false
is_home Asked = false

-- the lot is posted, and not asked back
abbrev pub is_posted : Place → Bool
is_posted Home = false
is_posted Posted = true
is_posted Asked = false

-- the lot is posted, and asked back
abbrev pub is_asked : Place → Bool
is_asked Home = false
is_asked Posted = false
is_asked Asked = true

-- the entry past the pledgor's own lots
abbrev pub no_lot : PledgorLot
no_lot = record { place = Home; lot = record { class = 0; face = 0 } }

-- the entry of a lot
abbrev pub lot_at : PledgorState → ℕ → PledgorLot
lot_at p n = slice_index_or p.lots n no_lot

-- a lot at another place
abbrev pub moved : PledgorLot → Place → PledgorLot
moved x y = record { place = y; lot = x.lot }

-- the one place is the other
abbrev pub is_place : Place → Place → Bool
is_place Home x = is_home x
is_place Posted x = is_posted x
is_place Asked x = is_asked x

-- a lot of the pledgor that is at a place
abbrev pub own_at : PledgorState → ℕ → Place → Bool
own_at p l y = nat_lt l p.count && is_place y (lot_at p l).place

-- a lot of the pledgor that is home
abbrev pub home_at : PledgorState → ℕ → Bool
home_at p l = nat_lt l p.count && is_home (lot_at p l).place

-- a lot of the pledgor that is posted
abbrev pub posted_at : PledgorState → ℕ → Bool
posted_at p l = nat_lt l p.count && is_posted (lot_at p l).place

-- what an entry shows of the position: posted and asked lots
abbrev pub shown : Place → Lot → Option Lot
shown Home x = None
shown Posted x = Some x
shown Asked x = Some x

-- the position: class and face of a lot that is in it
abbrev pub position : PledgorState → ℕ → Option Lot
position p n = shown (lot_at p n).place (lot_at p n).lot

-- the agreed terms
abbrev pub terms_of : PledgorState → Terms
terms_of p = p.annex.terms

-- V by a row: every lot that is posted
abbrev pub value_by : PledgorState → Row → ℕ
value_by p r = total_of counts_at_pledgor (terms_of p) r p.lots
