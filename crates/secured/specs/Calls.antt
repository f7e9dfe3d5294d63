-- The calls of the secured end: what each drafts and the book after it, or why it is refused.
use Rattle.std.specs.Prelude.{ℕ, Bool, true, cond, ◌&&◌, ◌||◌, ℤ, Some, None, Ok, Err, Option, Result, ◌==◌, nat_le, nat_lt, slice_set}
use Rattle.refusal.specs.declared.Refusal.{Refusal}
use Rattle.refusal.specs.declared.Refusal.TheVariants as refused
use Rattle.annex.specs.declared.row.Row.{Row}
use Rattle.annex.specs.Row.{exposure_fits}
use Rattle.amounts.specs.declared.lots.SecuredLot.{SecuredLot}
use Rattle.amounts.specs.declared.lots.SecuredLot.TheVariants.{Absent, Held, OwedBack, DeclineOwed}
use Rattle.amounts.specs.declared.weighing.Notice.{Notice}
use Rattle.amounts.specs.declared.weighing.Notice.TheVariants as notice
use Rattle.amounts.specs.Amounts.{due_amount}
use Rattle.day.specs.declared.Day.{Day}
use Rattle.day.specs.declared.DayState.TheVariants as day
use Rattle.day.specs.Days.{day_in, is_closing, is_disputed, is_released}
use Rattle.message.specs.declared.Message.{Message}
use Rattle.message.specs.declared.Message.TheVariants.{Quiet, Call, Offer, Resolve, Return, Decline, Satisfied}
use Rattle.secured.specs.declared.state.Finding.{Finding}
use Rattle.secured.specs.declared.state.SecuredState.{SecuredState}
use Rattle.secured.specs.declared.state.Weighing.{Weighing}
use Rattle.secured.specs.Lots.{lot_at, terms_of}
use Rattle.secured.specs.Weighs.{same_notice, weighs}

-- the calls that issue a message; resolving takes what the valuer tells of the day
pub data SecuredCall : Type 0 where
  notify : Finding → Row → SecuredCall
  resolve : Option ℤ → SecuredCall
  confirm : SecuredCall
  reply : ℕ → SecuredCall

-- the message that tells a notice
abbrev pub telling : ℕ → ℤ → Notice → Message
telling n e notice.Quiet = Quiet n e
telling n e (notice.Call a) = Call n e a
telling n e (notice.Offer a) = Offer n e a

-- the day that a notice begins
abbrev pub beginning : ℕ → Notice → Day
beginning n notice.Quiet = record { state = day.Quiet; number = n; amount = 0 }
beginning n (notice.Call a) = record { state = day.Called; number = n; amount = a }
beginning n (notice.Offer a) = record { state = day.Offered; number = n; amount = a }

-- the row is kept, a day begins, and the sums are zeroed
abbrev pub noticed : SecuredState → Row → Weighing → SecuredState
noticed s r w =
    record {
      annex = s.annex;
      row = r;
      exposure = w.exposure;
      day = beginning r.day w.notice;
      before = w.value;
      delivered = 0;
      freed = 0;
      lots = s.lots;
    }

-- notifying: the row is weighed, and must come to the finding; else 15
abbrev pub notifying : SecuredState → Finding → Row → Result Weighing Refusal → Result (Message × SecuredState) Refusal
notifying s f r (Err x) = Err refused.WeighingDiffers
notifying s f r (Ok w) =
    cond (f.day == r.day && same_notice f.notice w.notice)
    (Ok (telling r.day w.exposure w.notice, noticed s r w))
    (Err refused.WeighingDiffers)

-- the same book at another exposure and day
abbrev pub with_day : SecuredState → ℤ → Day → SecuredState
with_day s e d = record { annex = s.annex; row = s.row; exposure = e; day = d; before = s.before; delivered = s.delivered; freed = s.freed; lots = s.lots }

-- the same book with another entry of a lot
abbrev pub with_lot : SecuredState → ℕ → SecuredLot → SecuredState
with_lot s l x = record { annex = s.annex; row = s.row; exposure = s.exposure; day = s.day; before = s.before; delivered = s.delivered; freed = s.freed; lots = slice_set s.lots l x }

-- an exposure that was told, or the one notified
abbrev pub exposure_or : Option ℤ → ℤ → ℤ
exposure_or None e = e
exposure_or (Some x) e = x

-- to resolve an exposure may be absent
abbrev pub resolve_fits : Option ℤ → Bool
resolve_fits None = true
resolve_fits (Some e) = exposure_fits e

-- resolving: what is due at an exposure, with V as at notifying; 13 unless disputed
abbrev pub resolving : SecuredState → ℤ → Result (Message × SecuredState) Refusal
resolving s e =
    let a : ℕ = due_amount (terms_of s) e s.before in
    cond (is_disputed s.day.state)
    (Ok (Resolve s.day.number e a, with_day s e (record { state = day.Resolved; number = s.day.number; amount = a })))
    (Err refused.State)

-- confirming: from released always, from agreed or resolved when enough is delivered; 13, then 14
abbrev pub confirming : SecuredState → Result (Message × SecuredState) Refusal
confirming s =
    cond (is_closing s.day.state)
    (cond (is_released s.day.state || nat_le s.day.amount s.delivered) (Ok (Satisfied s.day.number, with_day s s.exposure (day_in s.day day.Satisfied))) (Err refused.BelowAmount))
    (Err refused.State)

-- replying: a lot that is owed back is returned, one whose decline is owed stays; else 10
abbrev pub replying : SecuredState → ℕ → SecuredLot → Result (Message × SecuredState) Refusal
replying s l Absent = Err refused.Lot
replying s l (Held x) = Err refused.Lot
replying s l (OwedBack x) = Ok (Return l, with_lot s l Absent)
replying s l (DeclineOwed x) = Ok (Decline l, with_lot s l (Held x))

-- what a call drafts and the book after it, or why it is refused
abbrev pub drafts : SecuredState → SecuredCall → Result (Message × SecuredState) Refusal
drafts s (notify f r) = notifying s f r (weighs s r)
drafts s (resolve x) = cond (resolve_fits x) (resolving s (exposure_or x s.exposure)) (Err refused.Row)
drafts s confirm = confirming s
drafts s (reply l) = cond (nat_lt l 32) (replying s l (lot_at s l)) (Err refused.Lot)
