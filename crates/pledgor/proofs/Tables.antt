-- The table of lots: how opening fills it, and what its entries are.
use Rattle.std.proofs.Common.{◌≡◌, ℕ, zero, suc, ◌<◌, List, [], ◌∷◌, ◌++◌, map, length, get_or, take, drop, set, replicate, refl, ap, arith}

module _ {A B : Type 0} (f : A → B) where
  -- one entry more is filled in
  pub fill_more : (xs : List A) (ys : List B) (i : ℕ) (d : A) → i < length xs → i < length ys → set (map f (take i xs) ++ drop i ys) i (f (get_or xs i d)) ≡ map f (take (suc i) xs) ++ drop (suc i) ys
  fill_more [] ys i d h k = let z : ⊥ = omega arith in absurd z
  fill_more (x ∷ xs) [] i d h k = let z : ⊥ = omega arith in absurd z
  fill_more (x ∷ xs) (y ∷ ys) zero d h k = refl
  fill_more (x ∷ xs) (y ∷ ys) (suc i) d h k = ap (λ l. f x ∷ l) (fill_more xs ys i d (omega arith) (omega arith))

-- an entry of a table of one entry, or past it
pub repeated : {A : Type 0} (n k : ℕ) (a : A) → get_or (replicate n a) k a ≡ a
repeated zero k a = refl
repeated (suc n) zero a = refl
repeated (suc n) (suc k) a = repeated n k a
