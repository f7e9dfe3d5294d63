-- A scripted carrier as plain values, and what a counted call does to it.
use Rattle.std.specs.Prelude.{ℕ, ◌+◌, cond, List, drop, nat_lt}
use Rattle.carrier.specs.Means.{Means}
use Rattle.scripted.specs.declared.script.Entry.{Entry}
use Rattle.scripted.specs.Script.{play, unused}

-- the frames that wait, the places, the script, and how many calls were counted
pub record State : Type 0 where
  pub waiting : List (List ℕ)
  pub places : ℕ
  pub script : List Entry
  pub count : ℕ

abbrev pub means : State → Means
means s = record { waiting = s.waiting; places = s.places; faults = unused s.count s.script }

-- a call is counted, up to a thousand million, and its entries act on these frames
abbrev pub counted : State → List (List ℕ) → State
counted s ws =
    cond (nat_lt s.count 1000000000) (record { waiting = play s.places (s.count + 1) s.script ws; places = s.places; script = s.script; count = s.count + 1 }) (record { waiting = ws; places = s.places; script = s.script; count = s.count })

-- the first frame, if any waits, is gone
abbrev pub first_gone : State → State
first_gone s = record { waiting = drop 1 s.waiting; places = s.places; script = s.script; count = s.count }
