-- The standard schedule.
use Rattle.std.specs.Prelude.{ℕ, ◌+◌, ◌-◌, ◌*◌, cond, Ok, Err, Result, nat_lt}
use Rattle.refusal.specs.declared.Refusal.{Refusal}
use Rattle.refusal.specs.declared.Refusal.TheVariants as refused

-- the percentage of class c: par less 25 × c × (c + 1)
abbrev pub percent : ℕ → ℕ
percent c = 10000 - 25 * c * (c + 1)

-- there are eight classes
abbrev pub class_percentage : ℕ → Result ℕ Refusal
class_percentage c = cond (nat_lt c 8) (Ok (percent c)) (Err refused.Lot)
