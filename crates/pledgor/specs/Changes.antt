-- What a booking changes of the pledgor book.
use Rattle.std.specs.Prelude.{◌<◌, ⊤}
use Rattle.pledgor.specs.declared.booking.Change.{Change}
use Rattle.pledgor.specs.declared.booking.Change.TheVariants.{Told, Moved}
use Rattle.pledgor.specs.declared.state.PledgorState.{PledgorState}
use Rattle.pledgor.specs.Calls.{with_lot}

-- the book after a change
abbrev pub changed : PledgorState → Change → PledgorState
changed p (Told d) = record { annex = p.annex; day = d; count = p.count; lots = p.lots }
changed p (Moved l y) = with_lot p l y

-- a lot that is moved is in the table
abbrev pub InTable : Change → Type 0
InTable (Told d) = ⊤
InTable (Moved l y) = l < 32
