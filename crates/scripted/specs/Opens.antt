-- When a scripted carrier is opened, and what it then is.
use Rattle.std.specs.Prelude.{◌≡◌, ℕ, Bool, true, false, ◌&&◌, List, [], length, Ok, Err, Result, nat_le}
use Rattle.refusal.specs.declared.Refusal.{Refusal}
use Rattle.refusal.specs.Numbers.{number_of}
use Rattle.scripted.specs.declared.script.Entry.{Entry}
use Rattle.scripted.specs.declared.scripted.Scripted.{Scripted}
use Rattle.scripted.specs.Script.{script_fits}
use Rattle.scripted.specs.ScriptedMeans.{scripted_means, state_of}

-- 1 to 16 places, and a script in range
abbrev pub opens : ℕ → List Entry → Bool
opens places script = nat_le 1 places && (nat_le places 16 && script_fits script)

-- an empty carrier with the whole script still to come
pub record Fresh (places : ℕ) (script : List Entry) (s : Scripted) : Type 0 where
  pub fit : opens places script ≡ true
  pub state : state_of s ≡ record { waiting = []; places = places; script = script; count = 0 }
  pub faults : (scripted_means s).faults ≡ length script

-- an opening, refused by 9 exactly where places or script are out of range
abbrev pub Opened : ℕ → List Entry → Result Scripted Refusal → Type 0
Opened places script (Ok s) = Fresh places script s
Opened places script (Err e) = (number_of e ≡ 9) × (opens places script ≡ false)
