-- What a slip means: at most one frame, one place, no faults.
use Rattle.std.specs.Prelude.{[], map}
use Rattle.std.specs.Option.{option_to_list}
use Rattle.carrier.specs.declared.slip.Slip.{Slip}
use Rattle.carrier.specs.Held.{held}
use Rattle.carrier.specs.Means.{Means}

abbrev pub slip_means : Slip → Means
slip_means s = record { waiting = map held (option_to_list s.waiting); places = 1; faults = 0 }

abbrev pub empty_slip : Means
empty_slip = record { waiting = []; places = 1; faults = 0 }
