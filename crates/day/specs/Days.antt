-- The states of a day, and what each allows.
use Rattle.std.specs.Prelude.{ℕ, Bool, true, false, List, codes}
use Rattle.day.specs.declared.Day.{Day}
use Rattle.day.specs.declared.DayState.{DayState}
use Rattle.day.specs.declared.DayState.TheVariants.{Unset, Quiet, Called, Agreed, Disputed, Resolved, Offered, Released, Satisfied}

-- the day has ended, or there was none: a later one may begin
abbrev pub is_ended : DayState → Bool
is_ended Unset = true
is_ended Quiet = true
is_ended Called = false
is_ended Agreed = false
is_ended Disputed = false
is_ended Resolved = false
is_ended Offered = false
is_ended Released = false
is_ended Satisfied = true

-- the day is quiet or satisfied
abbrev pub is_settled : DayState → Bool
is_settled Unset = false
is_settled Quiet = true
is_settled Called = false
is_settled Agreed = false
is_settled Disputed = false
is_settled Resolved = false
is_settled Offered = false
is_settled Released = false
is_settled Satisfied = true

-- a call is not yet answered
abbrev pub is_called : DayState → Bool
is_called Unset = false
is_called Quiet = false
is_called Called = true
is_called Agreed = false
is_called Disputed = false
is_called Resolved = false
is_called Offered = false
is_called Released = false
is_called Satisfied = false

-- a call is disputed
abbrev pub is_disputed : DayState → Bool
is_disputed Unset = false
is_disputed Quiet = false
is_disputed Called = false
is_disputed Agreed = false
is_disputed Disputed = true
is_disputed Resolved = false
is_disputed Offered = false
is_disputed Released = false
is_disputed Satisfied = false

-- delivering is open
abbrev pub is_open : DayState → Bool
is_open Unset = false
is_open Quiet = false
is_open Called = false
is_open Agreed = true
is_open Disputed = true
is_open Resolved = true
is_open Offered = false
is_open Released = false
is_open Satisfied = false

-- an offer is not yet released
abbrev pub is_offered : DayState → Bool
is_offered Unset = false
is_offered Quiet = false
is_offered Called = false
is_offered Agreed = false
is_offered Disputed = false
is_offered Resolved = false
is_offered Offered = true
is_offered Released = false
is_offered Satisfied = false

-- an offer is released
abbrev pub is_released : DayState → Bool
is_released Unset = false
is_released Quiet = false
is_released Called = false
is_released Agreed = false
is_released Disputed = false
is_released Resolved = false
is_released Offered = false
is_released Released = true
is_released Satisfied = false

-- the day may be confirmed, if enough was delivered
abbrev pub is_closing : DayState → Bool
is_closing Unset = false
is_closing Quiet = false
is_closing Called = false
is_closing Agreed = true
is_closing Disputed = false
is_closing Resolved = true
is_closing Offered = false
is_closing Released = true
is_closing Satisfied = false

-- a call is not yet met
abbrev pub is_calling : DayState → Bool
is_calling Unset = false
is_calling Quiet = false
is_calling Called = true
is_calling Agreed = true
is_calling Disputed = true
is_calling Resolved = true
is_calling Offered = false
is_calling Released = false
is_calling Satisfied = false

-- an offer is not yet met
abbrev pub is_offering : DayState → Bool
is_offering Unset = false
is_offering Quiet = false
is_offering Called = false
is_offering Agreed = false
is_offering Disputed = false
is_offering Resolved = false
is_offering Offered = true
is_offering Released = true
is_offering Satisfied = false

-- no day yet
abbrev pub no_day : Day
no_day = record { state = Unset; number = 0; amount = 0 }

-- the same day in another state
abbrev pub day_in : Day → DayState → Day
day_in d x = record { state = x; number = d.number; amount = d.amount }

-- the word of each state
abbrev pub state_word : DayState → List ℕ
state_word Unset = codes "unset"
state_word Quiet = codes "quiet"
state_word Called = codes "called"
state_word Agreed = codes "agreed"
state_word Disputed = codes "disputed"
state_word Resolved = codes "resolved"
state_word Offered = codes "offered"
state_word Released = codes "released"
state_word Satisfied = codes "satisfied"
