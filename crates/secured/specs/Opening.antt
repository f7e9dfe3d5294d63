-- The secured book as opened.
use Rattle.std.specs.Prelude.{replicate, pos, None}
use Rattle.annex.specs.declared.agreed.Annex.{Annex}
use Rattle.annex.specs.declared.row.Row.{Row}
use Rattle.amounts.specs.declared.lots.SecuredLot.TheVariants.{Absent}
use Rattle.day.specs.Days.{no_day}
use Rattle.secured.specs.declared.state.SecuredState.{SecuredState}

-- a row that tells nothing
abbrev pub no_row : Row
no_row = record { day = 0; exposure = None; prices = replicate 8 None }

-- no day, and every lot absent
abbrev pub opened : Annex → SecuredState
opened a = record { annex = a; row = no_row; exposure = pos 0; day = no_day; before = 0; delivered = 0; freed = 0; lots = replicate 32 Absent }
