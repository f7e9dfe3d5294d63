-- The ranges of the terms.
use Rattle.std.specs.Prelude.{ℕ, Bool, ◌&&◌, nat_le}
use Rattle.std.specs.List.{list_all}
use Rattle.annex.specs.declared.terms.Terms.{Terms}

-- from the first number to the second, both included
abbrev pub within : ℕ → ℕ → ℕ → Bool
within low high n = nat_le low n && nat_le n high

-- a percentage is at most 10,000, which is par
abbrev pub percentage_fits : ℕ → Bool
percentage_fits q = nat_le q 10000

-- terms that can be agreed
abbrev pub terms_fit : Terms → Bool
terms_fit t =
    nat_le t.threshold 10000000000000
    && (within 1 1000000000000 t.pledgor_minimum
    && (within 1 1000000000000 t.secured_minimum
    && (nat_le t.pledgor_independent 1000000000000
    && (nat_le t.secured_independent 1000000000000
    && list_all percentage_fits t.percentages))))
