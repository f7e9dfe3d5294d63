-- The ranges behind the test of terms and of an exposure.
use Rattle.std.proofs.Common.{◌≡◌, ℕ, ◌≤◌, true, get_or, ℤ, pos, negsuc, ◌≤ℤ◌, Ok, refl, arith, leb-true}
use Rattle.std.proofs.lemmas.Int.{ints}
use Rattle.std.proofs.lemmas.Bool.Decides.{nat_tests}
use Rattle.annex.specs.declared.terms.Terms.{Terms}
use Rattle.std.specs.List.{list_all}
use Rattle.annex.specs.declared.row.Row.{Row}
use Rattle.annex.specs.Row.{checked_row, day_fits, exposure_fits, price_fits}
use Rattle.annex.specs.Terms.{terms_fit, percentage_fits}
use Rattle.annex.proofs.Tests.{every_get_d}

-- terms in range
pub record Agreed (t : Terms) : Type 0 where
  pub threshold_to : t.threshold ≤ 10000000000000
  pub pledgor_minimum_from : 1 ≤ t.pledgor_minimum
  pub pledgor_minimum_to : t.pledgor_minimum ≤ 1000000000000
  pub secured_minimum_from : 1 ≤ t.secured_minimum
  pub secured_minimum_to : t.secured_minimum ≤ 1000000000000
  pub pledgor_independent_to : t.pledgor_independent ≤ 1000000000000
  pub secured_independent_to : t.secured_independent ≤ 1000000000000
  pub percentage_to : (c : ℕ) → get_or t.percentages c 0 ≤ 10000

pub agreed : (t : Terms) → terms_fit t ≡ true → Agreed t
agreed t e =
    let percentages : list_all percentage_fits t.percentages ≡ true = grind (arith, nat_tests) in
    record {
      threshold_to = grind (arith, nat_tests);
      pledgor_minimum_from = grind (arith, nat_tests);
      pledgor_minimum_to = grind (arith, nat_tests);
      secured_minimum_from = grind (arith, nat_tests);
      secured_minimum_to = grind (arith, nat_tests);
      pledgor_independent_to = grind (arith, nat_tests);
      secured_independent_to = grind (arith, nat_tests);
      percentage_to = λ c. leb-true _ _ (every_get_d percentage_fits 0 refl t.percentages percentages c);
    }

pub exposure_range : (e : ℤ) → exposure_fits e ≡ true → (negsuc 9999999999999 ≤ℤ e) × (e ≤ℤ pos 10000000000000)
exposure_range e h = (grind (arith, ints), grind (arith, ints))

-- a row that passed its check, at the exposure that it gave
pub record Checked (r : Row) (e : ℤ) : Type 0 where
  pub day_fits_lem : day_fits r.day ≡ true
  pub exposure_fits_lem : exposure_fits e ≡ true
  pub prices_fit : list_all price_fits r.prices ≡ true

pub checked : (r : Row) (e : ℤ) → checked_row r ≡ Ok e → Checked r e
checked r e h = record { day_fits_lem = grind arith; exposure_fits_lem = grind arith; prices_fit = grind arith }
