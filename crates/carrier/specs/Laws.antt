-- What holds of every carrier, whatever its faults do.
use Rattle.std.specs.Prelude.{◌≡◌, ℕ, ◌≤◌, Bool, true, List, [], ◌∷◌, ◌++◌, length, Ok, Option, Result}
use Rattle.std.specs.List.{All, Contains}
use Rattle.refusal.specs.declared.Refusal.{Refusal}
use Rattle.carrier.specs.Means.{Act, Acts, Means, Sound}
use Rattle.carrier.specs.Rules.{Collected, Posted, Taken}

-- acts keep what holds of every waiting frame, for any test
abbrev pub ActsKeepWhatAllPass : Type 0
ActsKeepWhatAllPass = (test : List ℕ → Bool) (places : ℕ) (acts : List Act) (ws vs : List (List ℕ)) → Acts places acts ws vs → All (λ f. test f ≡ true) ws → All (λ f. test f ≡ true) vs

-- acts make no frame of their own: each frame that waits after them is one that waited before, so they keep any property at all
abbrev pub ActsMakeNoFrame : Type 0
ActsMakeNoFrame = (places : ℕ) (acts : List Act) (ws vs : List (List ℕ)) → Acts places acts ws vs → All (Contains ws) vs

-- acts keep the room
abbrev pub ActsKeepRoom : Type 0
ActsKeepRoom = (places : ℕ) (acts : List Act) (ws vs : List (List ℕ)) → Acts places acts ws vs → length ws ≤ places → length vs ≤ places

-- from one meaning to a later one: still well formed, no more faults left, the same places
pub record Kept (m n : Means) : Type 0 where
  pub sound : Sound n
  pub fewer : n.faults ≤ m.faults
  pub same : n.places ≡ m.places

abbrev pub PostingKeeps : Type 0
PostingKeeps = (m : Means) (frame : List ℕ) (r : Result Unit Refusal) (n : Means) → Sound m → Posted m frame r n → Kept m n

abbrev pub CollectingKeeps : Type 0
CollectingKeeps = (m : Means) (buffer : List ℕ) (r : Result (Option ℕ) Refusal) (n : Means) (filled : List ℕ) → Sound m → Collected m buffer r n filled → Kept m n

-- without a fall of faults left a post only adds its frame
abbrev pub PostingWithoutAFall : Type 0
PostingWithoutAFall = (m : Means) (frame : List ℕ) (n : Means) → Posted m frame (Ok tt) n → n.faults ≡ m.faults → n.waiting ≡ m.waiting ++ (frame ∷ [])

-- without a fall of faults left a collect only takes the first frame that waited
abbrev pub CollectingWithoutAFall : Type 0
CollectingWithoutAFall = (m : Means) (buffer : List ℕ) (answer : Option ℕ) (n : Means) (filled : List ℕ) → Collected m buffer (Ok answer) n filled → n.faults ≡ m.faults → Taken m.waiting buffer answer n.waiting filled

pub record CarriersStand : Type 0 where
  pub all_pass : ActsKeepWhatAllPass
  pub none_made : ActsMakeNoFrame
  pub room : ActsKeepRoom
  pub posting : PostingKeeps
  pub collecting : CollectingKeeps
  pub plain_post : PostingWithoutAFall
  pub plain_collect : CollectingWithoutAFall
