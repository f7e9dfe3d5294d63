-- What lots are worth.
use Rattle.std.specs.Prelude.{ℕ, ◌*◌, ◌/◌, cond, List, Some, None, Ok, Err, sum_by, Option, Result, slice_index, slice_index_or}
use Rattle.refusal.specs.declared.Refusal.{Refusal}
use Rattle.refusal.specs.declared.Refusal.TheVariants as refused
use Rattle.annex.specs.declared.row.Row.{Row}
use Rattle.annex.specs.declared.terms.Terms.{Terms}
use Rattle.std.specs.List.{list_all}
use Rattle.annex.specs.Row.{price_fits}
use Rattle.amounts.specs.declared.lots.Lot.{Lot}
use Rattle.amounts.specs.Lots.{lot_fits, table_fits}

-- face × price × percentage / 10^8, rounded down once; zero without a price
abbrev pub value_of : ℕ → Option ℕ → ℕ → ℕ
value_of face None q = 0
value_of face (Some p) q = face * p * q / 100000000

-- the Value of a lot: by the row's price and the terms' percentage of its class
abbrev pub lot_value : Terms → Row → Lot → ℕ
lot_value t r l = value_of l.face (slice_index_or r.prices l.class None) (slice_index t.percentages l.class)

-- what an entry of a table adds: the Value of the lot that counts
abbrev pub adds : Terms → Row → Option Lot → ℕ
adds t r None = 0
adds t r (Some l) = lot_value t r l

-- V: the sum of the Values of all lots that count, each lot once
abbrev pub total_of : {H : Type 0} → (H → Option Lot) → Terms → Row → List H → ℕ
total_of counts t r hs = sum_by (λ h. adds t r (counts h)) hs

-- the answer where prices are tested: 12 where one is out of range
abbrev if_priced : Row → ℕ → Result ℕ Refusal
if_priced r v = cond (list_all price_fits r.prices) (Ok v) (Err refused.Row)

-- a lot's Value, or 10 for the lot, or 12 for a price
abbrev pub valued : Terms → Row → Lot → Result ℕ Refusal
valued t r l = cond (lot_fits l) (if_priced r (lot_value t r l)) (Err refused.Lot)

-- V, or 10 for a lot, or 12 for a price
abbrev pub totalled : {H : Type 0} → (H → Option Lot) → Terms → Row → List H → Result ℕ Refusal
totalled counts t r hs = cond (table_fits counts hs) (if_priced r (total_of counts t r hs)) (Err refused.Lot)
