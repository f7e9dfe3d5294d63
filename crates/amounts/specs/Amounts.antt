-- What is to be delivered or returned.
use Rattle.std.specs.Prelude.{◌≡◌, ℕ, ◌+◌, ◌-◌, cond, ◌⊎◌, ℤ, pos, negsuc, ◌+ℤ◌, ◌-ℤ◌, ◌<ℤ◌, Ok, Err, Result, nat_le}
use Rattle.refusal.specs.declared.Refusal.{Refusal}
use Rattle.refusal.specs.declared.Refusal.TheVariants as refused
use Rattle.annex.specs.declared.terms.Terms.{Terms}
use Rattle.annex.specs.Row.{exposure_fits}
use Rattle.amounts.specs.declared.weighing.Amounts.{Amounts}
use Rattle.amounts.specs.declared.weighing.Notice.{Notice}
use Rattle.amounts.specs.declared.weighing.Notice.TheVariants.{Quiet, Call, Offer}

-- a number, or zero if it is negative
abbrev pub natural : ℤ → ℕ
natural (pos n) = n
natural (negsuc n) = 0

-- exposure after the independent amounts: E + Ip − Is
abbrev pub adjusted : Terms → ℤ → ℤ
adjusted t e = e +ℤ pos t.pledgor_independent -ℤ pos t.secured_independent

-- the Credit Support Amount: that less the threshold, or zero if negative
abbrev pub credit_support : Terms → ℤ → ℕ
credit_support t e = natural (adjusted t e -ℤ pos t.threshold)

-- the Delivery Amount: the excess of the Credit Support Amount over V
abbrev pub delivery_amount : Terms → ℤ → ℕ → ℕ
delivery_amount t e v = credit_support t e - v

-- the Return Amount: the excess of V over the Credit Support Amount
abbrev pub return_amount : Terms → ℤ → ℕ → ℕ
return_amount t e v = v - credit_support t e

-- a call if the Delivery Amount is at least the pledgor's minimum, an offer if the Return Amount is at
-- least the secured party's, else quiet
abbrev pub notice_of : Terms → ℕ → ℕ → Notice
notice_of t delivery excess = cond (nat_le t.pledgor_minimum delivery) (Call delivery) (cond (nat_le t.secured_minimum excess) (Offer excess) Quiet)

-- all amounts at an exposure and a V
abbrev pub amounts_of : Terms → ℤ → ℕ → Amounts
amounts_of t e v =
    record {
      support = credit_support t e;
      delivery = delivery_amount t e v;
      excess = return_amount t e v;
      notice = notice_of t (delivery_amount t e v) (return_amount t e v);
    }

-- the amounts, or 12 where the exposure is out of range
abbrev pub weighed : Terms → ℤ → ℕ → Result Amounts Refusal
weighed t e v = cond (exposure_fits e) (Ok (amounts_of t e v)) (Err refused.Row)

-- what is called for: the Delivery Amount, or zero below the pledgor's minimum
abbrev pub due_amount : Terms → ℤ → ℕ → ℕ
due_amount t e v = cond (nat_le t.pledgor_minimum (delivery_amount t e v)) (delivery_amount t e v) 0

-- that, or 12 where the exposure is out of range
abbrev pub due_or : Terms → ℤ → ℕ → Result ℕ Refusal
due_or t e v = cond (exposure_fits e) (Ok (due_amount t e v)) (Err refused.Row)

-- what the pledgor would owe, less what the collateral is worth
abbrev pub uncovered : Terms → ℤ → ℕ → ℤ
uncovered t e v = adjusted t e -ℤ pos v

-- at most one of Delivery and Return Amount is positive, and V plus the one less the other is the Credit
-- Support Amount
abbrev pub Balanced : ℕ → Amounts → Type 0
Balanced v a = ((a.delivery ≡ 0) ⊎ (a.excess ≡ 0)) × (v + a.delivery ≡ a.support + a.excess)

-- a quiet finding leaves less uncovered than the threshold and the pledgor's minimum together
abbrev pub Covered : Terms → ℤ → ℕ → Amounts → Type 0
Covered t e v a = a.notice ≡ Quiet → uncovered t e v <ℤ pos (t.threshold + t.pledgor_minimum)
