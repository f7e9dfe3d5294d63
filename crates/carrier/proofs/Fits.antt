-- Fault acts keep whatever holds of every waiting frame, and keep the frames within the places.
use Rattle.std.proofs.Common.{ℕ, suc, ◌≤◌, List, [], ◌∷◌, length, get_or, take, drop, sym, subst, arith}
use Rattle.std.specs.List.{All, remove, insert}
use Rattle.std.proofs.lemmas.List.Elements.{All-append, All-cons, All-drop, All-take}
use Rattle.std.proofs.lemmas.List.Edits.{length-remove, length-insert}
use Rattle.carrier.specs.Means.{Able, Act, Acts, copy, done, lose, move}

module _ (P : List ℕ → Type 0) where
  all_removed : (xs : List (List ℕ)) (i : ℕ) → All P xs → All P (remove xs i)
  all_removed xs i a = All-append P (take i xs) (drop (suc i) xs) (All-take P i xs a) (All-drop P (suc i) xs a)

  all_inserted : (xs : List (List ℕ)) (i : ℕ) (f : List ℕ) → P f → All P xs → All P (insert xs i f)
  all_inserted xs i f p a = All-append P (take i xs) (f ∷ drop i xs) (All-take P i xs a) (All-cons P f (drop i xs) p (All-drop P i xs a))

  all_done : (places : ℕ) (a : Act) (ws : List (List ℕ)) → Able places a ws → All P ws → All P (done a ws)
  all_done places (lose i) ws can all = all_removed ws i all
  all_done places (copy i j) ws can all = all_inserted ws j _ (all i [] can.0) all
  all_done places (move i j) ws can all = all_inserted (remove ws i) j _ (all i [] can.0) (all_removed ws i all)

  pub all_acts : (places : ℕ) (acts : List Act) (ws vs : List (List ℕ)) → Acts places acts ws vs → All P ws → All P vs
  all_acts places [] ws vs e all = subst (All P) (sym e) all
  all_acts places (a ∷ more) ws vs e all = all_acts places more (done a ws) vs e.1 (all_done places a ws e.0 all)

within : (places : ℕ) (a : Act) (ws : List (List ℕ)) → Able places a ws → length ws ≤ places → length (done a ws) ≤ places
within places (lose i) ws can h = omega (arith, length-remove ws i can)
within places (copy i j) ws can h = omega (arith, length-insert ws j (get_or ws i []) can.1)
within places (move i j) ws can h =
    let r = length-remove ws i can.0 in
    omega (arith, length-insert (remove ws i) j (get_or ws i []) (omega (arith, r, can.1)))

pub room_acts : (places : ℕ) (acts : List Act) (ws vs : List (List ℕ)) → Acts places acts ws vs → length ws ≤ places → length vs ≤ places
room_acts places [] ws vs e h = rw e h
room_acts places (a ∷ more) ws vs e h = room_acts places more (done a ws) vs e.1 (within places a ws e.0 h)
