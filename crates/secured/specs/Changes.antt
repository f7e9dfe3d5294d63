-- What a booking changes of the secured book.
use Rattle.std.specs.Prelude.{◌<◌, ⊤, slice_set}
use Rattle.amounts.specs.declared.lots.SecuredLot.TheVariants.{Held}
use Rattle.day.specs.Days.{day_in}
use Rattle.secured.specs.declared.booking.Change.{Change}
use Rattle.secured.specs.declared.booking.Change.TheVariants.{Answered, Delivered, Substituted, Asked}
use Rattle.secured.specs.declared.state.SecuredState.{SecuredState}
use Rattle.secured.specs.Calls.{with_day}

-- the book after a change
abbrev pub changed : SecuredState → Change → SecuredState
changed s (Answered x) = with_day s s.exposure (day_in s.day x)
changed s (Delivered l x d) =
    record {
      annex = s.annex;
      row = s.row;
      exposure = s.exposure;
      day = s.day;
      before = s.before;
      delivered = d;
      freed = s.freed;
      lots = slice_set s.lots l (Held x);
    }
changed s (Substituted l x o y) =
    record {
      annex = s.annex;
      row = s.row;
      exposure = s.exposure;
      day = s.day;
      before = s.before;
      delivered = s.delivered;
      freed = s.freed;
      lots = slice_set (slice_set s.lots l (Held x)) o y;
    }
changed s (Asked l y f) =
    record {
      annex = s.annex;
      row = s.row;
      exposure = s.exposure;
      day = s.day;
      before = s.before;
      delivered = s.delivered;
      freed = f;
      lots = slice_set s.lots l y;
    }

-- the lots that change are in the table
abbrev pub InTable : Change → Type 0
InTable (Answered x) = ⊤
InTable (Delivered l x d) = l < 32
InTable (Substituted l x o y) = (l < 32) × (o < 32)
InTable (Asked l y f) = l < 32
