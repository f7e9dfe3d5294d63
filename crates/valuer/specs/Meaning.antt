-- What sheets and panels mean.
use Rattle.std.specs.Prelude.{ℕ, Bool, cond, ◌&&◌, List, [], ◌∷◌, length, ℤ, pos, ◌+ℤ◌, Some, None, fold, Option, ◌==◌, nat_le, nat_lt, slice_index_or}
use Rattle.std.specs.Int.{int_div_euclid}
use Rattle.annex.specs.declared.row.Row.{Row}
use Rattle.std.specs.List.{find, list_all}
use Rattle.annex.specs.Row.{exposure_fits}

-- the first row of a day
abbrev pub row_in : List Row → ℕ → Option Row
row_in rs day = find (λ r. r.day == day) rs

abbrev pub exposure_of : Option Row → Option ℤ
exposure_of None = None
exposure_of (Some r) = r.exposure

-- the price of a class; there are eight
abbrev pub price_of : Option Row → ℕ → Option ℕ
price_of None class = None
price_of (Some r) class = cond (nat_lt class 8) (slice_index_or r.prices class None) None

-- at most four quotes, each in the range of an exposure
abbrev pub quotes_fit : List ℤ → Bool
quotes_fit qs = nat_le (length qs) 4 && list_all exposure_fits qs

-- the mean of the quotes, rounded down (the divisor is positive); none without quotes
abbrev pub mean_of : List ℤ → Option ℤ
mean_of [] = None
mean_of (q ∷ qs) = Some (int_div_euclid (fold ◌+ℤ◌ (pos 0) (q ∷ qs)) (pos (length (q ∷ qs))))

-- the exposure of a panel: on its own day alone
abbrev pub panel_exposure : ℕ → List ℤ → ℕ → Option ℤ
panel_exposure own qs day = cond (own == day) (cond (quotes_fit qs) (mean_of qs) None) None
