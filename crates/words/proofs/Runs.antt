-- Things read one after another.
use Rattle.std.proofs.Common.{◌≡◌, ℕ, ◌+◌, ◌<◌, List, [], ◌∷◌, length, take, slice_set, Bor, MatchOption, Option, Result, Some, None, arith, subst, sym, refl}
use Rattle.std.proofs.lemmas.Grind.{common_steps}
use Rattle.std.proofs.lemmas.Fn.{FoldsTo-push}
use Rattle.std.proofs.lemmas.List.{take_more_set}
use Rattle.std.specs.List.{FoldsTo}
use Rattle.std.specs.Result.{result_ok}
use Rattle.words.specs.Words.{Filled, InARow, Number, TakesWord, Then}

module _ {A : Type 0} (reads : List ℕ → Option A → List ℕ → Type 0) where
  -- one more of n
  pub one_more : (n : ℕ) (s : List ℕ) (xs : List A) (i : ℕ) (t : List ℕ) (x : A) (u : List ℕ) → length xs ≡ n → i < n
      → FoldsTo (λ p y q. reads p (Some y) q) s (take i xs) t → reads t (Some x) u
      → FoldsTo (λ p y q. reads p (Some y) q) s (take (i + 1) (slice_set xs i x)) u
  one_more n s xs i t x u all below before next =
      let P : List A → Type 0 = λ ys. FoldsTo (λ p y q. reads p (Some y) q) s ys u in
      let within : i < length xs = omega (arith, all) in
      subst P (sym (take_more_set xs i x within)) (FoldsTo-push (λ p y q. reads p (Some y) q) s (take i xs) t x u before next)

  -- the one of n that is not there
  pub one_missing : (n : ℕ) (s : List ℕ) (xs ys : List A) (i : ℕ) (t u : List ℕ) (result : Option Unit) → length xs ≡ n → i < n
      → FoldsTo (λ p y q. reads p (Some y) q) s (take i xs) t → reads t None u → result ≡ None
      → Filled reads n s result ys u
  one_missing n s xs ys i t u result all below before next none =
      let P : Option Unit → Type 0 = λ r. Filled reads n s r ys u in
      let short : length (take i xs) < n = grind (arith, common_steps, all) in
      subst P (sym none) (record { in_a_row = (take i xs, t, short, before, next) })

module _ {A B : Type 0} {first : List ℕ → Option A → List ℕ → Type 0} {second : A → List ℕ → Option B → List ℕ → Type 0} where
  pub goes_on : (s t u : List ℕ) (result : Option B) (x : A) → first s (Some x) t → second x t result u → Then first second s result u
  goes_on s t u result x a b = record { value = Some x; between = t; begins = a; goes_on = b }

  pub stops : (s t : List ℕ) (result : Option B) → first s None t → result ≡ None → Then first second s result t
  stops s t result a none = record { value = None; between = t; begins = a; goes_on = (none, refl) }

-- what holds of a text and what is left holds of texts that are the same
pub at_ends : {A : Type 0} (reads : List ℕ → Option A → List ℕ → Type 0) (s t : List ℕ) (r : Option A) (u v : List ℕ) → s ≡ t → u ≡ v → reads s r u → reads t r v
at_ends reads s t r u v from to h =
    let P : List ℕ → Type 0 = λ x. reads x r u in
    let Q : List ℕ → Type 0 = λ x. reads t r x in
    subst Q to (subst P from h)

module _ {A : Type 0} (P Q : List ℕ → Option A → List ℕ → Type 0) where
  -- each reading of the one kind is one of the other
  abbrev pub Same : Type 0
  Same = (s : List ℕ) (r : Option A) (t : List ℕ) → P s r t → Q s r t

  chained : (xs : List A) (s t : List ℕ) → FoldsTo (λ p x q. P p (Some x) q) s xs t → Same → FoldsTo (λ p x q. Q p (Some x) q) s xs t
  chained [] s t h same = h
  chained (x ∷ xs) s t h same = (h.0, same s (Some x) h.0 h.1, chained xs h.0 t h.2 same)

  missing-in : (n : ℕ) (s : List ℕ) (t : List ℕ) → InARow P n s None t → Same → InARow Q n s None t
  missing-in n s t h same = (h.0, h.1, h.2, chained h.0 s h.1 h.3 same, same h.1 None t h.4)

  there-in : (n : ℕ) (s : List ℕ) (xs : List A) (t : List ℕ) → InARow P n s (Some xs) t → Same → InARow Q n s (Some xs) t
  there-in n s xs t h same = (h.0, chained xs s t h.1 same)

  pub missing : (n : ℕ) (s : List ℕ) (r : Option Unit) (xs : List A) (t : List ℕ) (result : Option (List A)) → Filled P n s r xs t → r ≡ None → result ≡ None → Same → InARow Q n s result t
  missing n s r xs t result h is none same =
      let R : Option (List A) → Type 0 = λ o. InARow Q n s o t in
      let M : Option Unit → Type 0 = λ o. MatchOption o (InARow P n s None t) (λ _. InARow P n s (Some xs) t) in
      subst R (sym none) (missing-in n s t (subst M is h.in_a_row) same)

  pub all_there : (n : ℕ) (s : List ℕ) (r : Option Unit) (xs : List A) (t : List ℕ) (u : Unit) → Filled P n s r xs t → r ≡ Some u → Same → InARow Q n s (Some xs) t
  all_there n s r xs t u h is same =
      let M : Option Unit → Type 0 = λ o. MatchOption o (InARow P n s None t) (λ _. InARow P n s (Some xs) t) in
      there-in n s xs t (subst M is h.in_a_row) same

module _ {A E : Type 0} (gives : List ℕ → Result A E → Type 0) where
  pub number_taken : (text : List ℕ) (word : Bor (List ℕ)) (parsed : Result A E) (result : Option A) (left : List ℕ)
      → TakesWord text (Some word) left → gives word.now parsed → result ≡ result_ok parsed → Number gives text result left
  number_taken text word parsed result left taken given is = record { word = Some word; taken = taken; read = (parsed, given, is) }
