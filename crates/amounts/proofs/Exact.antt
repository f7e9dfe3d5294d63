-- In 64 bits the sum of an exposure in range and the independent amounts is exact.
use Rattle.std.proofs.Common.{◌≡◌, true, ℤ, ◌+ℤ◌, ◌-ℤ◌, arith, w64, to_z, of_z}
use Rattle.std.proofs.lemmas.Int.{ints}
use Rattle.annex.specs.declared.terms.Terms.{Terms}
use Rattle.annex.specs.Row.{exposure_fits}
use Rattle.annex.specs.Terms.{terms_fit}
use Rattle.annex.proofs.Ranges.{agreed, exposure_range}
use Rattle.amounts.specs.Amounts.{adjusted}

pub adjusted_exact : (t : Terms) (e : ℤ) → terms_fit t ≡ true → exposure_fits e ≡ true → to_z w64 (of_z w64 (to_z w64 (of_z w64 (to_z w64 (of_z w64 e) +ℤ to_z w64 t.pledgor_independent)) -ℤ to_z w64 t.secured_independent)) ≡ adjusted t e
adjusted_exact t e u k = let a = agreed t u in let r = exposure_range e k in omega (arith, ints)
