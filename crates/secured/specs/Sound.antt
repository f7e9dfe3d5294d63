-- What the secured book keeps by itself, whatever the pledgor sends.
use Rattle.std.specs.Prelude.{◌≡◌, ℕ, ◌+◌, ◌<◌, ◌≤◌, true, length, ℤ, pos, ◌<ℤ◌}
use Rattle.std.specs.List.{list_all}
use Rattle.annex.specs.Row.{exposure_fits, price_fits}
use Rattle.amounts.specs.Amounts.{credit_support}
use Rattle.amounts.specs.Amounts as amounts
use Rattle.amounts.specs.Lots.{counts_at_secured, table_fits}
use Rattle.day.specs.declared.DayState.{DayState}
use Rattle.day.specs.Days.{is_calling, is_offering, is_settled}
use Rattle.secured.specs.declared.state.SecuredState.{SecuredState}
use Rattle.secured.specs.Lots.{terms_of, value_now}

-- prices, counted lots and exposure are in range, the table has 32 entries, and V at notifying is in range
abbrev pub Ranged : SecuredState → Type 0
Ranged s =
    (list_all price_fits s.row.prices ≡ true)
    × (table_fits counts_at_secured s.lots ≡ true)
    × (exposure_fits s.exposure ≡ true)
    × (length s.lots ≡ 32)
    × (s.before ≤ 640000000000)

-- while a call is open: V has risen by at least what was delivered, and the amount makes up for what lacks
abbrev pub CallKept : (support least v before delivered amount : ℕ) → Type 0
CallKept support least v before delivered amount = (before + delivered ≤ v) × (support < before + amount + least)

-- in an offer: what was freed is within the amount, and V has fallen by no more
abbrev pub OfferKept : (support v before freed amount : ℕ) → Type 0
OfferKept support v before freed amount = (freed ≤ amount) × (before ≤ v + freed) × (support + amount ≤ before)

-- and once the day is quiet or satisfied, what lacks is below the pledgor's minimum
abbrev pub KeptIn : DayState → (support least v before delivered freed amount : ℕ) → Type 0
KeptIn x support least v before delivered freed amount =
    (is_calling x ≡ true → CallKept support least v before delivered amount)
    × (is_offering x ≡ true → OfferKept support v before freed amount)
    × (is_settled x ≡ true → support < v + least)

-- what the book keeps of its own day
abbrev pub Kept : SecuredState → Type 0
Kept s = KeptIn s.day.state (credit_support (terms_of s) s.exposure) (terms_of s).pledgor_minimum (value_now s) s.before s.delivered s.freed s.day.amount

-- in range and covered
abbrev pub Sound : SecuredState → Type 0
Sound s = Ranged s × Kept s

-- uncovered exposure: the latest notified or resolved exposure plus the pledgor's less the secured party's
-- independent amount, less V by the row last notified
abbrev pub uncovered : SecuredState → ℤ
uncovered s = amounts.uncovered (terms_of s) s.exposure (value_now s)

-- in a quiet or satisfied day uncovered exposure is below the threshold and the pledgor's minimum together
abbrev pub Covered : SecuredState → Type 0
Covered s = is_settled s.day.state ≡ true → uncovered s <ℤ pos ((terms_of s).threshold + (terms_of s).pledgor_minimum)
