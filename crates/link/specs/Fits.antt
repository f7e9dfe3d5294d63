-- How many messages may be kept, and that every message of a list can be sent.
use Rattle.std.specs.Prelude.{ℕ, Bool, List, is_none}
use Rattle.std.specs.List.{list_all}
use Rattle.message.specs.declared.Message.{Message}
use Rattle.message.specs.Ranges.{unfit_of}

abbrev pub window : ℕ
window = 8

-- each field of the message is in its range
abbrev pub message_fits : Message → Bool
message_fits m = is_none (unfit_of m)

abbrev pub all_fit : List Message → Bool
all_fit ms = list_all message_fits ms
