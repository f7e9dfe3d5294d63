-- The front of bytes, and of a buffer.
use Rattle.std.proofs.Common.{◌≡◌, ℕ, zero, suc, ◌+◌, ◌-◌, ◌<◌, ◌≤◌, List, [], ◌∷◌, ◌++◌, length, get_or, take, drop, w8, w16, w32, w64, Fits, Some, sym, refl, ap, ◌∙◌, subst, arith, length-take-le, length-drop, div-one, take-append-drop, length-append, append_assoc}
use Rattle.std.specs.Int.{to_be_bytes}
use Rattle.std.proofs.lemmas.List.{take_at, drop_at, drop_all, drop-drop, take_rest, append-nil}
use borrow.Rule.Slice.PartMut.{put_mid}
use Rattle.octets.specs.Numbers.{bytes_of}
use Rattle.octets.specs.Puts.{Puts}

pub be_2 : (n : ℕ) → to_be_bytes w16 n ≡ bytes_of 2 n
unfolding bytes_of
be_2 n = simp div-one refl

pub be_4 : (n : ℕ) → to_be_bytes w32 n ≡ bytes_of 4 n
unfolding bytes_of
be_4 n = simp div-one refl

pub be_8 : (n : ℕ) → to_be_bytes w64 n ≡ bytes_of 8 n
unfolding bytes_of
be_8 n = simp div-one refl

-- a front of bytes holds bytes
small : (w : ℕ) (xs : List ℕ) → ((i : ℕ) → Fits w8 (get_or xs i 0)) → (i : ℕ) → get_or (take w xs) i 0 < 256
small zero xs typed i = omega arith
small (suc w) [] typed i = omega arith
small (suc w) (x ∷ xs) typed zero = (typed 0).fits
small (suc w) (x ∷ xs) typed (suc i) = small w xs (λ k. typed (suc k)) i

-- what `split_first_chunk` gave, where the front's bytes are those of a number
module _ (w : ℕ) (xs front rest : List ℕ) (typed : (i : ℕ) → Fits w8 (get_or xs i 0)) (split : (front ≡ take w xs) × (rest ≡ drop w xs) × (length rest + w ≡ length xs)) where
  pub first_bytes : (ys : List ℕ) → (length front ≡ w → ((i : ℕ) → get_or front i 0 < 256) → ys ≡ front) → xs ≡ ys ++ rest
  first_bytes ys same =
      let len : length front ≡ w = ap length split.0 ∙ length-take-le w xs (omega arith) in
      let e : ys ≡ front = same len (subst (λ (l : List ℕ). (i : ℕ) → get_or l i 0 < 256) (sym split.0) (small w xs typed)) in
      sym (take-append-drop w xs) ∙ rw (e, split.0, split.1) refl

-- one put after another
pub both : (xs ys b0 b1 b2 : List ℕ) (i j : ℕ) → Puts xs (Some i) b0 b1 → Puts ys (Some j) (take (length b1 - i) (drop i b1)) b2 → Puts (xs ++ ys) (Some (i + j)) b0 (put_mid i (length b1 - i) b1 b2)
both xs ys b0 b1 b2 i j p q =
    let a : take i b1 ≡ xs = ap (take i) p.2 ∙ take_at xs (drop i b0) i (sym p.0) in
    let d : drop i b1 ≡ drop i b0 = ap (drop i) p.2 ∙ drop_at xs (drop i b0) i (sym p.0) in
    let n : drop (length b1 - i) (drop i b1) ≡ [] = drop_all _ (drop i b1) (simp length-drop (omega arith)) in
    let room : i ≤ length b0 = p.1 in
    let more : j ≤ length (drop i b0) = subst (λ (l : List ℕ). j ≤ length l) (take_rest b1 i ∙ d) q.1 in
    let e : b2 ≡ ys ++ drop j (drop i b0) = q.2 ∙ ap (λ (l : List ℕ). ys ++ drop j l) (take_rest b1 i ∙ d) in (
      simp length-append (omega arith),
      omega (arith, length-drop {A = ℕ}),
      rw (n, a, append-nil b2, e, drop-drop j i b0) (sym (append_assoc xs ys (drop (i + j) b0))),
    )
