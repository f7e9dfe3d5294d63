-- Fault acts on written frames are the written forms of fault acts on frames.
use Rattle.std.proofs.Common.{◌≡◌, ℕ, List, [], ◌∷◌, map, sym, refl, ap, subst, arith}
use Rattle.std.proofs.lemmas.List.{length-map}
use Rattle.law.specs.Link.{Takes, here, there, Act, lose, copy, move, Acts, done, again}
use Rattle.law.specs.Laws.{ActsOnWrittenFrames}

module _ {A B : Type 0} (f : A → B) where
  lift_out : (xs : List A) {y : B} {ys : List B} → Takes y (map f xs) ys → (x : A) × (us : List A) × (f x ≡ y) × (map f us ≡ ys) × Takes x xs us
  lift_out [] t = elim t [ ]
  lift_out (x ∷ xs) here = (x, xs, refl, refl, here)
  lift_out (x ∷ xs) (there t) = let r = lift_out xs t in (r.0, x ∷ r.1, r.2, ap (λ l. f x ∷ l) r.3, there r.4)

  lift_in : (x : A) (xs : List A) {y : B} {zs : List B} → f x ≡ y → Takes y zs (map f xs) → (us : List A) × (map f us ≡ zs) × Takes x us xs
  lift_in x [] e here = (x ∷ [], ap (λ z. z ∷ []) e, here)
  lift_in x (z ∷ xs) e here = (x ∷ z ∷ xs, ap (λ w. w ∷ map f (z ∷ xs)) e, here)
  lift_in x (z ∷ xs) e (there t) = let r = lift_in x xs e t in (z ∷ r.0, ap (λ l. f z ∷ l) r.1, there r.2)

  lift_act : {p : ℕ} (ws : List A) {vs : List B} → Act p (map f ws) vs → (us : List A) × (map f us ≡ vs) × Act p ws us
  lift_act ws (lose t) = let r = lift_out ws t in (r.1, r.3, lose r.4)
  lift_act ws (copy t l u) =
      let r = lift_out ws t in
      let q = lift_in r.0 ws r.2 u in
      (q.0, q.1, copy r.4 (omega (arith, length-map ws f)) q.2)
  lift_act ws (move {x = y} {moved = vs} t u) =
      let r = lift_out ws t in
      let q = lift_in r.0 r.1 r.2 (subst (λ l. Takes y vs l) (sym r.3) u) in
      (q.0, q.1, move r.4 q.2)

  lift_acts : {p n : ℕ} {xs vs : List B} → Acts p n xs vs → (ws : List A) → map f ws ≡ xs → (us : List A) × (map f us ≡ vs) × Acts p n ws us
  lift_acts done ws e = (ws, e, done)
  lift_acts {p = p} (again {y = zs} a r) ws e =
      let q = lift_act ws (subst (λ l. Act p l zs) (sym e) a) in
      let s = lift_acts r q.0 q.1 in
      (s.0, s.1, again q.2 s.2)

pub lifts : (A B : Type 0) → ActsOnWrittenFrames A B
lifts A B f p n ws vs r = lift_acts f r ws refl
