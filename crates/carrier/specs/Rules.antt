-- What posting and collecting answer and do, by the meaning before and after, refused or not.
use Rattle.std.specs.Prelude.{◌≡◌, ℕ, ◌+◌, ◌<◌, ◌≤◌, ◌⊎◌, List, [], ◌∷◌, ◌++◌, length, drop, Some, None, Ok, Err, Option, Result}
use Rattle.refusal.specs.declared.Refusal.{Refusal}
use Rattle.refusal.specs.Numbers.{number_of}
use Rattle.carrier.specs.Means.{Act, Acts, Fit, Means}

-- a frame finds a place: it joins the end, then the acts follow, each paid from the faults left
pub record Joined (before : Means) (frame : List ℕ) (after : Means) : Type 0 where
  pub fit : Fit frame
  pub room : length before.waiting < before.places
  pub acts : List Act
  pub waits : Acts before.places acts (before.waiting ++ (frame ∷ [])) after.waiting
  pub same_places : after.places ≡ before.places
  pub spent : after.faults + length acts ≤ before.faults

-- why a post is refused: by 1 for an unfit frame, by 7 for a fit one when all places are taken
abbrev pub PostRefused : Means → List ℕ → ℕ → Type 0
PostRefused m frame number = ((number ≡ 1) × (Fit frame → ⊥)) ⊎ ((number ≡ 7) × Fit frame × (m.places ≤ length m.waiting))

-- a post, refused or not
abbrev pub Posted : Means → List ℕ → Result Unit Refusal → Means → Type 0
Posted before frame (Ok done) after = Joined before frame after
Posted before frame (Err e) after = PostRefused before frame (number_of e) × (after ≡ before)

-- the first frame leaves and fills the buffer's front, and the answer is its length; none where nothing waits
abbrev pub Taken : List (List ℕ) → List ℕ → Option ℕ → List (List ℕ) → List ℕ → Type 0
Taken [] buffer None rest filled = (rest ≡ []) × (filled ≡ buffer)
Taken [] buffer (Some n) rest filled = ⊥
Taken (f ∷ fs) buffer None rest filled = ⊥
Taken (f ∷ fs) buffer (Some n) rest filled = (n ≡ length f) × (rest ≡ fs) × (filled ≡ f ++ drop (length f) buffer)

-- the acts come first, each paid from the faults left, then the first frame that waits leaves
pub record Gathered (before : Means) (buffer : List ℕ) (answer : Option ℕ) (after : Means) (filled : List ℕ) : Type 0 where
  pub wide : 64 ≤ length buffer
  pub acts : List Act
  pub between : List (List ℕ)
  pub waits : Acts before.places acts before.waiting between
  pub taken : Taken between buffer answer after.waiting filled
  pub same_places : after.places ≡ before.places
  pub spent : after.faults + length acts ≤ before.faults

-- a collect, refused or not: by 8 for a buffer under 64 bytes
abbrev pub Collected : Means → List ℕ → Result (Option ℕ) Refusal → Means → List ℕ → Type 0
Collected before buffer (Ok answer) after filled = Gathered before buffer answer after filled
Collected before buffer (Err e) after filled = (number_of e ≡ 8) × (length buffer < 64) × (after ≡ before) × (filled ≡ buffer)
