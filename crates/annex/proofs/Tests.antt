-- Each element of a list that passes a test.
use Rattle.std.proofs.Common.{◌≡◌, ℕ, zero, suc, ◌<◌, Bool, true, List, [], ◌∷◌, length, get_or}
use Rattle.std.proofs.lemmas.Bool.{and_parts}
use Rattle.std.proofs.lemmas.List.Elements.{All-get_or}
use Rattle.std.proofs.lemmas.List.Sums.{AllPass-from_list_all}
use Rattle.std.specs.List.{list_all}

module _ {A : Type 0} (test : A → Bool) where
  -- each element passes, and past the end a default that does
  pub every_get_d : (d : A) → test d ≡ true → (xs : List A) → list_all test xs ≡ true → (i : ℕ) → test (get_or xs i d) ≡ true
  every_get_d d k [] e i = k
  every_get_d d k (x ∷ xs) e zero = (and_parts (test x) (list_all test xs) e).0
  every_get_d d k (x ∷ xs) e (suc i) = every_get_d d k xs (and_parts (test x) (list_all test xs) e).1 i

  -- each element passes
  pub every_at : (d : A) (xs : List A) → list_all test xs ≡ true → (i : ℕ) → i < length xs → test (get_or xs i d) ≡ true
  every_at d xs e i h = All-get_or (λ x. test x ≡ true) xs i d h (AllPass-from_list_all test xs e)
