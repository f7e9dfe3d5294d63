-- What a row comes to, and the finding that is handed out.
use Rattle.std.specs.Prelude.{Bool, true, false, cond, ◌&&◌, ℤ, Ok, Err, Result, ◌==◌, nat_lt}
use Rattle.refusal.specs.declared.Refusal.{Refusal}
use Rattle.refusal.specs.declared.Refusal.TheVariants as refused
use Rattle.annex.specs.declared.row.Row.{Row}
use Rattle.annex.specs.Row.{checked_row}
use Rattle.amounts.specs.declared.weighing.Notice.{Notice}
use Rattle.amounts.specs.declared.weighing.Notice.TheVariants.{Quiet, Call, Offer}
use Rattle.amounts.specs.Amounts.{delivery_amount, notice_of, return_amount}
use Rattle.day.specs.Days.{is_ended}
use Rattle.secured.specs.declared.state.Finding.{Finding}
use Rattle.secured.specs.declared.state.SecuredState.{SecuredState}
use Rattle.secured.specs.declared.state.Weighing.{Weighing}
use Rattle.secured.specs.Lots.{terms_of, value_by}

-- a row at its exposure: V by it, and a call, an offer or quiet
abbrev pub weighing : SecuredState → Row → ℤ → Weighing
weighing s r e =
    record {
      exposure = e;
      value = value_by s r;
      notice = notice_of (terms_of s) (delivery_amount (terms_of s) e (value_by s r)) (return_amount (terms_of s) e (value_by s r));
    }

-- by the row once it is checked
abbrev pub weighs_at : SecuredState → Row → Result ℤ Refusal → Result Weighing Refusal
weighs_at s r (Err x) = Err x
weighs_at s r (Ok e) = Ok (weighing s r e)

-- weighing a row: 11 for a day not later or a last day not ended, then 12 for an unfit row
abbrev pub weighs : SecuredState → Row → Result Weighing Refusal
weighs s r = cond (is_ended s.day.state && nat_lt s.day.number r.day) (weighs_at s r (checked_row r)) (Err refused.Day)

-- the finding: day, kind and amount
abbrev pub found : Row → Result Weighing Refusal → Result Finding Refusal
found r (Err x) = Err x
found r (Ok w) = Ok (record { day = r.day; notice = w.notice })

-- equal kind and equal amount
abbrev pub same_notice : Notice → Notice → Bool
same_notice Quiet Quiet = true
same_notice Quiet (Call b) = false
same_notice Quiet (Offer b) = false
same_notice (Call a) Quiet = false
same_notice (Call a) (Call b) = a == b
same_notice (Call a) (Offer b) = false
same_notice (Offer a) Quiet = false
same_notice (Offer a) (Call b) = false
same_notice (Offer a) (Offer b) = a == b
