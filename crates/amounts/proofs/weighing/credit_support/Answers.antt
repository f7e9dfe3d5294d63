use Rattle.std.proofs.Common.{◌≡◌, ℤ, pos, negsuc, ◌-ℤ◌, ◌∙◌, refl, ap, arith, w64, SFits, to_z, rules}
use lib.IntN.{nat_abs}
use Rattle.std.specs.Int.{int_max}
use Rattle.std.proofs.lemmas.Int.{ints, to_z-of_z, to_z_pos}
use Rattle.annex.proofs.Ranges.{agreed, exposure_range}
use Rattle.amounts.specs.Amounts.{adjusted, natural}
use Rattle.amounts.proofs.weighing.credit_support.Goals as goal

-- the larger of a number and zero
natural_max : (z : ℤ) → nat_abs (int_max z (pos 0)) ≡ natural z
natural_max (pos n) = grind (arith, ints)
natural_max (negsuc n) = refl

pub returns : goal.returns
returns c =
    let t = c.args.annex.now.terms in
    let e = c.args.exposure.hundredths in
    let a = agreed t c.args.annex.now.fit in
    let r = exposure_range e c.args.exposure.in_range in
    let fits : SFits w64 c.max.result = search rules in
    let own : SFits w64 (adjusted t e) = omega (arith, ints) in
    let less : SFits w64 (adjusted t e -ℤ pos t.threshold) = omega (arith, ints) in
    let high : to_z w64 t.threshold ≡ pos t.threshold = to_z_pos w64 t.threshold (omega arith) in
    let most : c.max.result ≡ int_max (adjusted t e -ℤ pos t.threshold) (pos 0) = simp (c.adjusted.ensures, to_z-of_z w64 (adjusted t e) own, high, to_z-of_z w64 (adjusted t e -ℤ pos t.threshold) less) at c.max.ensures.value in
    simp (to_z-of_z w64 c.max.result fits) (ap nat_abs most ∙ natural_max (adjusted t e -ℤ pos t.threshold))
