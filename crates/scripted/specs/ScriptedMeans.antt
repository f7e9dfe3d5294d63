-- What a scripted carrier means, and exactly what its two calls do.
use Rattle.std.specs.Prelude.{◌≡◌, ℕ, List, [], ◌∷◌, ◌++◌, map, Ok, Err, vec_items, Option, Result}
use Rattle.std.proofs.lemmas.List.{length-map}
use Rattle.refusal.specs.declared.Refusal.{Refusal}
use Rattle.carrier.specs.Held.{held}
use Rattle.carrier.specs.Means.{Means, Sound}
use Rattle.carrier.specs.Rules.{Taken}
use Rattle.carrier.specs.Sounds.{frames_fit}
use Rattle.scripted.specs.declared.scripted.Scripted.{Scripted}
use Rattle.scripted.specs.State.{counted, first_gone, means, State}

abbrev pub state_of : Scripted → State
state_of s = record { waiting = map held s.waiting.frames.items; places = s.waiting.places; script = vec_items s.script; count = s.count }

abbrev pub scripted_means : Scripted → Means
scripted_means s = means (state_of s)

pub scripted_sound : (s : Scripted) → Sound (scripted_means s)
scripted_sound s = record { frames = frames_fit s.waiting.frames.items; some_place = s.waiting.some; room = rw length-map s.waiting.room }

-- a post: the frame joins the end, then the entries of this call act; refused, nothing changes
abbrev pub PostedByScript : State → List ℕ → Result Unit Refusal → State → Type 0
PostedByScript before frame (Ok done) after = after ≡ counted before (before.waiting ++ (frame ∷ []))
PostedByScript before frame (Err e) after = after ≡ before

-- a collect: the entries of this call act, then the first frame that waits leaves; refused, nothing changes
abbrev pub CollectedByScript : State → List ℕ → Result (Option ℕ) Refusal → State → List ℕ → Type 0
CollectedByScript before buffer (Ok answer) after filled = (after ≡ first_gone (counted before before.waiting)) × Taken (counted before before.waiting).waiting buffer answer after.waiting filled
CollectedByScript before buffer (Err e) after filled = after ≡ before
