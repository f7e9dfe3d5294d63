-- Worked figures: threshold 1,000,000, both minimum transfer amounts 500,000, no independent amounts, the
-- standard schedule.
use Rattle.std.specs.Prelude.{◌≡◌, ℕ, [], ◌∷◌, ℤ, pos, negsuc, Some, slice_index}
use Rattle.annex.specs.declared.terms.Terms.{Terms}
use Rattle.annex.specs.Schedule.{percent}
use Rattle.amounts.specs.declared.weighing.Notice.{Notice}
use Rattle.amounts.specs.declared.weighing.Notice.TheVariants.{Quiet, Call, Offer}
use Rattle.amounts.specs.Amounts.{delivery_amount, notice_of, return_amount}
use Rattle.amounts.specs.Value.{value_of}
use Rattle.valuer.specs.Meaning.{mean_of}

abbrev terms : Terms
terms =
    record {
      threshold = 1000000;
      pledgor_minimum = 500000;
      secured_minimum = 500000;
      pledgor_independent = 0;
      secured_independent = 0;
      percentages = percent 0 ∷ percent 1 ∷ percent 2 ∷ percent 3 ∷ percent 4 ∷ percent 5 ∷ percent 6 ∷ percent 7 ∷ [];
    }

-- what is notified at an exposure and a V
abbrev notified : ℤ → ℕ → Notice
notified e v = notice_of terms (delivery_amount terms e v) (return_amount terms e v)

abbrev pub Figures : Type 0
Figures =
    (notified (pos 1499999) 0 ≡ Quiet)
    × (notified (pos 1500000) 0 ≡ Call 500000)
    × (notified (pos 0) 1234567 ≡ Offer 1234567)
    × (notified (pos 0) 499999 ≡ Quiet)
    × (value_of 1000000 (Some 10000) (slice_index terms.percentages 7) ≡ 860000)
    × (mean_of (pos 10 ∷ pos 11 ∷ pos 11 ∷ pos 13 ∷ []) ≡ Some (pos 11))
    × (mean_of (negsuc 0 ∷ negsuc 1 ∷ []) ≡ Some (negsuc 1))
