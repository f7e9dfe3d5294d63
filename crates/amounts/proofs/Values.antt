-- The bounds of a Value and of V.
use Rattle.std.proofs.Common.{◌≡◌, ℕ, ◌+◌, ◌*◌, ◌≤◌, true, leb, List, length, get_or, Some, None, Option, refl, arith, leb-true}
use Rattle.std.proofs.lemmas.Nat.{mul-le, div_below}
use Rattle.std.proofs.lemmas.List.Sums.{AllPass-from_list_all, sum_by-le}
use Rattle.std.proofs.lemmas.List.Elements.{All-weaker}
use Rattle.std.proofs.lemmas.Bool.{and_parts}
use Rattle.std.proofs.lemmas.Bool.Decides.{nat_tests}
use Rattle.annex.specs.declared.row.Row.{Row}
use Rattle.annex.specs.declared.terms.Terms.{Terms}
use Rattle.std.specs.List.{list_all}
use Rattle.annex.specs.Row.{price_fits}
use Rattle.annex.specs.Terms.{terms_fit}
use Rattle.annex.proofs.Tests.{every_get_d}
use Rattle.annex.proofs.Ranges.{agreed}
use Rattle.amounts.specs.declared.lots.Lot.{Lot}
use Rattle.amounts.specs.Lots.{counted_fits, table_fits}
use Rattle.amounts.specs.Value.{value_of, lot_value, adds, total_of}

-- a Value is at most twice the face: the price is at most twice par, the percentage at most par
value_within : (f : ℕ) (p : Option ℕ) (q : ℕ) → price_fits p ≡ true → q ≤ 10000 → value_of f p q ≤ 2 * f
value_within f None q e h = omega arith
value_within f (Some p) q e h =
    let a = mul-le f p f 20000 (omega arith) (leb-true p 20000 e) in
    let b = mul-le (f * p) q (f * 20000) 10000 a h in
    let d = div_below (f * p * q) 100000000 (2 * f + 1) (omega arith) (omega arith) in
    omega arith

module _ (t : Terms) (r : Row) (u : terms_fit t ≡ true) (k : list_all price_fits r.prices ≡ true) where
  pub lot_value_within : (l : Lot) → lot_value t r l ≤ 2 * l.face
  lot_value_within l = value_within l.face (get_or r.prices l.class None) (get_or t.percentages l.class 0) (every_get_d price_fits None refl r.prices k l.class) ((agreed t u).percentage_to l.class)

  -- what an entry adds is at most 2 × 10^10
  adds_within : (o : Option Lot) → counted_fits o ≡ true → adds t r o ≤ 20000000000
  adds_within None e = omega arith
  adds_within (Some l) e = grind (arith, nat_tests, lot_value_within l)

-- V is at most 6.4 × 10^11
pub total_within : {H : Type 0} (counts : H → Option Lot) (hs : List H) → table_fits counts hs ≡ true → (t : Terms) (r : Row) → terms_fit t ≡ true → list_all price_fits r.prices ≡ true → total_of counts t r hs ≤ 640000000000
total_within counts hs e t r u k =
    let parts = and_parts (leb (length hs) 32) (list_all (λ h. counted_fits (counts h)) hs) e in
    let few : length hs ≤ 32 = leb-true (length hs) 32 parts.0 in
    let each = All-weaker (λ h. counted_fits (counts h) ≡ true) (λ h. adds t r (counts h) ≤ 20000000000) (λ h. adds_within t r u k (counts h)) hs (AllPass-from_list_all (λ h. counted_fits (counts h)) hs parts.1) in
    omega (arith, sum_by-le (λ h. adds t r (counts h)) 20000000000 hs each)
