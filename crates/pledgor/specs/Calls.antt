-- The calls of the pledgor end: what each drafts and the book after it, or why it is refused.
use Rattle.std.specs.Prelude.{ℕ, cond, ◌&&◌, ℤ, Ok, Err, Result, ◌==◌, nat_le, slice_set}
use Rattle.refusal.specs.declared.Refusal.{Refusal}
use Rattle.refusal.specs.declared.Refusal.TheVariants as refused
use Rattle.annex.specs.declared.row.Row.{Row}
use Rattle.annex.specs.Row.{checked_row}
use Rattle.amounts.specs.declared.lots.Place.{Place}
use Rattle.amounts.specs.declared.lots.Place.TheVariants.{Posted, Asked}
use Rattle.amounts.specs.Amounts.{due_amount}
use Rattle.day.specs.declared.DayState.{DayState}
use Rattle.day.specs.declared.DayState.TheVariants as day
use Rattle.day.specs.Days.{day_in, is_called, is_offered, is_open}
use Rattle.message.specs.declared.Message.{Message}
use Rattle.message.specs.declared.Message.TheVariants.{Agree, Dispute, Delivery, Substitute, Ask, Release}
use Rattle.pledgor.specs.declared.state.PledgorState.{PledgorState}
use Rattle.pledgor.specs.Lots.{home_at, lot_at, moved, posted_at, terms_of, value_by}

-- the calls that issue a message
pub data PledgorCall : Type 0 where
  answer : Row → PledgorCall
  deliver : ℕ → PledgorCall
  substitute : ℕ → ℕ → PledgorCall
  ask : ℕ → PledgorCall
  release : PledgorCall

-- the same book with its day in another state
abbrev pub with_day : PledgorState → DayState → PledgorState
with_day p x = record { annex = p.annex; day = day_in p.day x; count = p.count; lots = p.lots }

-- the same book with a lot at another place
abbrev pub with_lot : PledgorState → ℕ → Place → PledgorState
with_lot p l y = record { annex = p.annex; day = p.day; count = p.count; lots = slice_set p.lots l (moved (lot_at p l) y) }

-- agreed where the pledgor's own amount is at least the called one, else disputed with it
abbrev pub answer_of : PledgorState → ℕ → Message × PledgorState
answer_of p own = cond (nat_le p.day.amount own) (Agree p.day.number, with_day p day.Agreed) (Dispute p.day.number own, with_day p day.Disputed)

-- answering by a row of the day: 12 for an unfit row or another day, then 13 unless called
abbrev pub answering : PledgorState → Row → Result ℤ Refusal → Result (Message × PledgorState) Refusal
answering p r (Err x) = Err x
answering p r (Ok e) =
    cond (r.day == p.day.number)
    (cond (is_called p.day.state) (Ok (answer_of p (due_amount (terms_of p) e (value_by p r)))) (Err refused.State))
    (Err refused.Row)

-- the delivery of a lot
abbrev pub delivery : PledgorState → ℕ → Message
delivery p l = Delivery p.day.number l (lot_at p l).lot.class (lot_at p l).lot.face

-- a home lot for a posted one
abbrev pub substitution : PledgorState → ℕ → ℕ → Message
substitution p new old = Substitute new (lot_at p new).lot.class (lot_at p new).lot.face old

-- what a call drafts and the book after it, or why it is refused
abbrev pub drafts : PledgorState → PledgorCall → Result (Message × PledgorState) Refusal
drafts p (answer r) = answering p r (checked_row r)
drafts p (deliver l) = cond (home_at p l) (cond (is_open p.day.state) (Ok (delivery p l, with_lot p l Posted)) (Err refused.State)) (Err refused.Lot)
drafts p (substitute new old) = cond (home_at p new && posted_at p old) (Ok (substitution p new old, with_lot (with_lot p new Posted) old Asked)) (Err refused.Lot)
drafts p (ask l) = cond (posted_at p l) (cond (is_offered p.day.state) (Ok (Ask p.day.number l, with_lot p l Asked)) (Err refused.State)) (Err refused.Lot)
drafts p release = cond (is_offered p.day.state) (Ok (Release p.day.number, with_day p day.Released)) (Err refused.State)
