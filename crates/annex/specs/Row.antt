-- The ranges of a row.
use Rattle.std.specs.Prelude.{ℕ, Bool, true, cond, ◌&&◌, ℤ, pos, negsuc, Some, None, Ok, Err, Option, Result, int_le, nat_le}
use Rattle.refusal.specs.declared.Refusal.{Refusal}
use Rattle.refusal.specs.declared.Refusal.TheVariants as refused
use Rattle.annex.specs.declared.row.Row.{Row}
use Rattle.std.specs.List.{list_all}
use Rattle.annex.specs.Terms.{within}

-- a day is from 1 to 10^9
abbrev pub day_fits : ℕ → Bool
day_fits day = within 1 1000000000 day

-- an exposure is from −10^13 to 10^13
abbrev pub exposure_fits : ℤ → Bool
exposure_fits e = int_le (negsuc 9999999999999) e && int_le e (pos 10000000000000)

-- a price is at most 20,000, or absent
abbrev pub price_fits : Option ℕ → Bool
price_fits None = true
price_fits (Some p) = nat_le p 20000

-- a row in range, at its exposure
abbrev pub row_fits : Row → ℤ → Bool
row_fits r e = day_fits r.day && (exposure_fits e && list_all price_fits r.prices)

-- the same by the exposure that the row tells
abbrev pub checked_at : Row → Option ℤ → Result ℤ Refusal
checked_at r None = Err refused.Row
checked_at r (Some e) = cond (row_fits r e) (Ok e) (Err refused.Row)

-- the exposure of a row that can be used; 12 where it is absent or the row is out of range
abbrev pub checked_row : Row → Result ℤ Refusal
checked_row r = checked_at r r.exposure
