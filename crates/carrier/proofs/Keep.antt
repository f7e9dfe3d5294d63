-- Posting and collecting keep a meaning sound, keep its places, and never add to its faults left.
use Rattle.std.proofs.Common.{◌≡◌, ℕ, ◌≤◌, true, List, [], ◌∷◌, ◌++◌, length, get_or, take, drop, Some, None, Ok, Err, Option, sym, refl, ap, ◌∙◌, subst, arith, length-append}
use Rattle.std.specs.List.{All, Contains}
use Rattle.std.proofs.lemmas.List.{get_or_default, take_at}
use Rattle.std.proofs.lemmas.List.Elements.{All-head, All-nil, All-push, All-tail}
use Rattle.carrier.specs.Laws.{ActsMakeNoFrame, CarriersStand, CollectingKeeps, CollectingWithoutAFall, Kept, PostingKeeps, PostingWithoutAFall}
use Rattle.carrier.specs.Means.{Act, Acts, Fit, Means, Sound}
use Rattle.carrier.specs.Rules.{Gathered, Joined, Taken}
use Rattle.carrier.proofs.Fits.{all_acts, room_acts}

pub kept_refl : {m : Means} → Sound m → Kept m m
kept_refl s = record { sound = s; fewer = omega arith; same = refl }

-- what is left when the first frame left
left : (P : List ℕ → Type 0) (ws : List (List ℕ)) (buffer : List ℕ) (o : Option ℕ) (rest : List (List ℕ)) (filled : List ℕ) → All P ws → Taken ws buffer o rest filled → All P rest × (length rest ≤ length ws)
left P [] buffer None rest filled all t = rw t.0 (All-nil P, omega arith)
left P [] buffer (Some n) rest filled all t = absurd t
left P (f ∷ fs) buffer None rest filled all t = absurd t
left P (f ∷ fs) buffer (Some n) rest filled all t = rw t.1 (All-tail P f fs all, omega arith)

-- the frames between the acts and the leaving
between_fit : {m : Means} {buffer : List ℕ} {o : Option ℕ} {n : Means} {filled : List ℕ} → Sound m → (k : Gathered m buffer o n filled) → All Fit k.between
between_fit {m} s k = all_acts Fit m.places k.acts m.waiting k.between k.waits s.frames

gathered_keeps : {m : Means} {buffer : List ℕ} {o : Option ℕ} {n : Means} {filled : List ℕ} → Sound m → Gathered m buffer o n filled → Kept m n
gathered_keeps {m} {buffer} {o} {n} {filled} s k =
    let few = room_acts m.places k.acts m.waiting k.between k.waits s.room in
    let l = left Fit k.between buffer o n.waiting filled (between_fit s k) k.taken in
    record { sound = record { frames = l.0; some_place = omega (arith, k.same_places, s.some_place); room = omega (arith, k.same_places, few, l.1) }; fewer = omega (arith, k.spent); same = k.same_places }

pub collecting_keeps : CollectingKeeps
collecting_keeps m buffer (Ok o) n filled s k = gathered_keeps s k
collecting_keeps m buffer (Err e) n filled s k = subst (λ (o : Means). Kept m o) (sym k.2) (kept_refl s)

joined_keeps : {m : Means} {f : List ℕ} {n : Means} → Sound m → Joined m f n → Kept m n
joined_keeps {m} {f} {n} s k =
    let start : All Fit (m.waiting ++ (f ∷ [])) = All-push Fit m.waiting f s.frames k.fit in
    let all = all_acts Fit m.places k.acts (m.waiting ++ (f ∷ [])) n.waiting k.waits start in
    let few = room_acts m.places k.acts (m.waiting ++ (f ∷ [])) n.waiting k.waits (omega (arith, length-append m.waiting (f ∷ []), k.room)) in
    record { sound = record { frames = all; some_place = omega (arith, k.same_places, s.some_place); room = omega (arith, k.same_places, few) }; fewer = omega (arith, k.spent); same = k.same_places }

pub posting_keeps : PostingKeeps
posting_keeps m f (Ok x) n s k = joined_keeps s k
posting_keeps m f (Err e) n s k = subst (λ (o : Means). Kept m o) (sym k.1) (kept_refl s)

-- no act leaves the list as it was
no_acts : (places : ℕ) (acts : List Act) (ws vs : List (List ℕ)) → length acts ≤ 0 → Acts places acts ws vs → vs ≡ ws
no_acts places [] ws vs h e = e
no_acts places (a ∷ more) ws vs h e = absurd (let z : ◌≡◌ {A = ℕ} 0 1 = omega arith in omega arith)

pub plain_post : PostingWithoutAFall
plain_post m f n k e = no_acts m.places k.acts (m.waiting ++ (f ∷ [])) n.waiting (omega (arith, k.spent, e)) k.waits

pub plain_collect : CollectingWithoutAFall
plain_collect m buffer o n filled k e =
    subst (λ (ws : List (List ℕ)). Taken ws buffer o n.waiting filled) (no_acts m.places k.acts m.waiting k.between (omega (arith, k.spent, e)) k.waits) k.taken

none_made : ActsMakeNoFrame
none_made places acts ws vs e = all_acts (Contains ws) places acts ws vs e (λ k d h. (k, h, get_or_default ws k (get_or ws k d) d h))

pub carriers_stand : CarriersStand
carriers_stand =
    record {
      all_pass = λ test. all_acts (λ f. test f ≡ true);
      none_made = none_made;
      room = room_acts;
      posting = posting_keeps;
      collecting = collecting_keeps;
      plain_post = plain_post;
      plain_collect = plain_collect;
    }

-- what stands in the buffer's front is a frame of 1 to 64 bytes
fit_frame : (ws : List (List ℕ)) (buffer : List ℕ) (n : ℕ) (rest : List (List ℕ)) (filled : List ℕ) → All Fit ws → Taken ws buffer (Some n) rest filled → Fit (take n filled)
fit_frame [] buffer n rest filled all t = absurd t
fit_frame (f ∷ fs) buffer n rest filled all t = subst Fit (sym (ap (take n) t.2 ∙ take_at f (drop (length f) buffer) n (sym t.0))) (All-head Fit f fs all)

pub gathered_frame : {m : Means} {buffer : List ℕ} {n : ℕ} {o : Means} {filled : List ℕ} → Sound m → Gathered m buffer (Some n) o filled → Fit (take n filled)
gathered_frame {m} {buffer} {n} {o} {filled} s k = fit_frame k.between buffer n o.waiting filled (between_fit s k) k.taken
