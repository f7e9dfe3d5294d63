-- The laws of the amounts of a day.
use Rattle.std.proofs.Common.{◌≡◌, ℕ, ◌+◌, Bool, true, false, cond, leb, ◌⊎◌, ℤ, pos, negsuc, ◌-ℤ◌, ◌≤ℤ◌, ◌<ℤ◌, sym, refl, ap, ◌∙◌, inl, inr, arith, leb-false, leb-true}
use Rattle.std.proofs.lemmas.Int.{ints}
use Rattle.annex.specs.declared.terms.Terms.{Terms}
use Rattle.amounts.specs.declared.weighing.Notice.TheVariants.{Quiet, Call, Offer}
use Rattle.amounts.specs.Amounts.{natural, adjusted, credit_support, delivery_amount, return_amount, amounts_of, uncovered, Balanced, Covered}

-- a number is at most what is left of it at zero
natural_above : (z : ℤ) → z ≤ℤ pos (natural z)
natural_above (pos n) = omega (arith, ints)
natural_above (negsuc n) = omega (arith, ints)

pub balanced : (t : Terms) (e : ℤ) (v : ℕ) → Balanced v (amounts_of t e v)
balanced t e v = (go (leb (credit_support t e) v) refl, omega arith) where
  go : (b : Bool) → leb (credit_support t e) v ≡ b → (delivery_amount t e v ≡ 0) ⊎ (return_amount t e v ≡ 0)
  go true h = inl (omega (arith, leb-true (credit_support t e) v h))
  go false h = inr (omega (arith, leb-false (credit_support t e) v h))

pub covered : (t : Terms) (e : ℤ) (v : ℕ) → Covered t e v (amounts_of t e v)
covered t e v q = go (leb t.pledgor_minimum (delivery_amount t e v)) refl where
  go : (b : Bool) → leb t.pledgor_minimum (delivery_amount t e v) ≡ b → uncovered t e v <ℤ pos (t.threshold + t.pledgor_minimum)
  go true h =
      let other = cond (leb t.secured_minimum (return_amount t e v)) (Offer (return_amount t e v)) Quiet in
      let z : Call (delivery_amount t e v) ≡ Quiet = sym (ap (λ b. cond b (Call (delivery_amount t e v)) other) h) ∙ q in
      let y : ◌≡◌ {A = ℕ} 0 1 = cc in
      let x : ⊥ = omega arith in
      absurd x
  go false h =
      let l = leb-false t.pledgor_minimum (delivery_amount t e v) h in
      let n = natural_above (adjusted t e -ℤ pos t.threshold) in
      omega (arith, ints)
