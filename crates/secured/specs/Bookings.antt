-- Booking: which messages of the pledgor fit the secured book, and the book after one.
use Rattle.std.specs.Prelude.{ℕ, ◌+◌, Bool, true, false, cond, ◌&&◌, List, Some, None, Option, ◌==◌, nat_le, nat_lt, slice_set}
use Rattle.amounts.specs.declared.lots.Lot.{Lot}
use Rattle.amounts.specs.declared.lots.SecuredLot.{SecuredLot}
use Rattle.amounts.specs.declared.lots.SecuredLot.TheVariants.{Absent, Held, OwedBack, DeclineOwed}
use Rattle.amounts.specs.Lots.{lot_fits}
use Rattle.day.specs.declared.Day.{Day}
use Rattle.day.specs.declared.DayState.TheVariants as day
use Rattle.day.specs.Days.{day_in, is_called, is_offered, is_open}
use Rattle.message.specs.declared.Message.{Message}
use Rattle.message.specs.declared.Message.TheVariants.{Quiet, Call, Offer, Agree, Dispute, Resolve, Delivery, Substitute, Ask, Return, Decline, Satisfied, Release}
use Rattle.secured.specs.declared.state.SecuredState.{SecuredState}
use Rattle.secured.specs.Lots.{is_absent, is_held, lot_at, worth, worth_at}

-- what fits the day: an answer of its own day to a call or an offer; of lots nothing of a later day
abbrev pub answer_fits : Day → Message → Bool
answer_fits d (Quiet n e) = false
answer_fits d (Call n e a) = false
answer_fits d (Offer n e a) = false
answer_fits d (Agree n) = is_called d.state && n == d.number
answer_fits d (Dispute n a) = is_called d.state && (n == d.number && nat_lt a d.amount)
answer_fits d (Resolve n e a) = false
answer_fits d (Delivery n l c f) = nat_le n d.number
answer_fits d (Substitute l c f o) = true
answer_fits d (Ask n l) = nat_le n d.number
answer_fits d (Return l) = false
answer_fits d (Decline l) = false
answer_fits d (Satisfied n) = false
answer_fits d (Release n) = is_offered d.state && n == d.number

-- the day after
abbrev pub answered : Day → Message → Day
answered d (Quiet n e) = d
answered d (Call n e a) = d
answered d (Offer n e a) = d
answered d (Agree n) = day_in d day.Agreed
answered d (Dispute n a) = day_in d day.Disputed
answered d (Resolve n e a) = d
answered d (Delivery n l c f) = d
answered d (Substitute l c f o) = d
answered d (Ask n l) = d
answered d (Return l) = d
answered d (Decline l) = d
answered d (Satisfied n) = d
answered d (Release n) = day_in d day.Released

-- a lot of a class and a face
abbrev pub lot_of : ℕ → ℕ → Lot
lot_of c f = record { class = c; face = f }

-- a new lot is in range and absent
abbrev pub new_fits : SecuredState → ℕ → Lot → Bool
new_fits s l x = nat_lt l 32 && (lot_fits x && is_absent (lot_at s l))

-- an old or asked lot is held
abbrev pub old_fits : SecuredState → ℕ → Bool
old_fits s l = nat_lt l 32 && is_held (lot_at s l)

-- what fits the lots
abbrev pub lots_fit : SecuredState → Message → Bool
lots_fit s (Quiet n e) = false
lots_fit s (Call n e a) = false
lots_fit s (Offer n e a) = false
lots_fit s (Agree n) = true
lots_fit s (Dispute n a) = true
lots_fit s (Resolve n e a) = false
lots_fit s (Delivery n l c f) = new_fits s l (lot_of c f)
lots_fit s (Substitute l c f o) = new_fits s l (lot_of c f) && old_fits s o
lots_fit s (Ask n l) = old_fits s l
lots_fit s (Return l) = false
lots_fit s (Decline l) = false
lots_fit s (Satisfied n) = false
lots_fit s (Release n) = true

-- a held lot becomes owed back, or else a decline of it is owed
abbrev pub owe : Bool → SecuredLot → SecuredLot
owe b Absent = Absent
owe b (Held l) = cond b (OwedBack l) (DeclineOwed l)
owe b (OwedBack l) = OwedBack l
owe b (DeclineOwed l) = DeclineOwed l

-- a substitute replaces its old lot if some day was notified and the new Value is at least the old
abbrev pub replaces : SecuredState → Lot → ℕ → Bool
replaces s x o = nat_lt 0 s.day.number && nat_le (worth_at s (lot_at s o)) (worth s x)

-- an asked lot is freed in an offer of its day if the Values so freed, its own included, are within the amount
abbrev pub frees : SecuredState → ℕ → ℕ → Bool
frees s n l = (is_offered s.day.state && n == s.day.number) && nat_le (s.freed + worth_at s (lot_at s l)) s.day.amount

-- the lots after
abbrev pub lots_after : SecuredState → Message → List SecuredLot
lots_after s (Quiet n e) = s.lots
lots_after s (Call n e a) = s.lots
lots_after s (Offer n e a) = s.lots
lots_after s (Agree n) = s.lots
lots_after s (Dispute n a) = s.lots
lots_after s (Resolve n e a) = s.lots
lots_after s (Delivery n l c f) = slice_set s.lots l (Held (lot_of c f))
lots_after s (Substitute l c f o) = slice_set (slice_set s.lots l (Held (lot_of c f))) o (owe (replaces s (lot_of c f) o) (lot_at s o))
lots_after s (Ask n l) = slice_set s.lots l (owe (frees s n l) (lot_at s l))
lots_after s (Return l) = s.lots
lots_after s (Decline l) = s.lots
lots_after s (Satisfied n) = s.lots
lots_after s (Release n) = s.lots

-- the delivered sum after: a Delivery adds its Value in agreed, disputed or resolved of its own day
abbrev pub delivered_after : SecuredState → Message → ℕ
delivered_after s (Quiet n e) = s.delivered
delivered_after s (Call n e a) = s.delivered
delivered_after s (Offer n e a) = s.delivered
delivered_after s (Agree n) = s.delivered
delivered_after s (Dispute n a) = s.delivered
delivered_after s (Resolve n e a) = s.delivered
delivered_after s (Delivery n l c f) = cond (is_open s.day.state && n == s.day.number) (s.delivered + worth s (lot_of c f)) s.delivered
delivered_after s (Substitute l c f o) = s.delivered
delivered_after s (Ask n l) = s.delivered
delivered_after s (Return l) = s.delivered
delivered_after s (Decline l) = s.delivered
delivered_after s (Satisfied n) = s.delivered
delivered_after s (Release n) = s.delivered

-- the freed sum after: an Ask adds the Value of its lot where that is freed
abbrev pub freed_after : SecuredState → Message → ℕ
freed_after s (Quiet n e) = s.freed
freed_after s (Call n e a) = s.freed
freed_after s (Offer n e a) = s.freed
freed_after s (Agree n) = s.freed
freed_after s (Dispute n a) = s.freed
freed_after s (Resolve n e a) = s.freed
freed_after s (Delivery n l c f) = s.freed
freed_after s (Substitute l c f o) = s.freed
freed_after s (Ask n l) = cond (frees s n l) (s.freed + worth_at s (lot_at s l)) s.freed
freed_after s (Return l) = s.freed
freed_after s (Decline l) = s.freed
freed_after s (Satisfied n) = s.freed
freed_after s (Release n) = s.freed

-- a message that can be booked
abbrev pub fits : SecuredState → Message → Bool
fits s m = answer_fits s.day m && lots_fit s m

-- the book after one that fits
abbrev pub books : SecuredState → Message → SecuredState
books s m =
    record {
      annex = s.annex;
      row = s.row;
      exposure = s.exposure;
      day = answered s.day m;
      before = s.before;
      delivered = delivered_after s m;
      freed = freed_after s m;
      lots = lots_after s m;
    }

-- the book after a message, if it fits
abbrev pub booked : SecuredState → Message → Option SecuredState
booked s m = cond (fits s m) (Some (books s m)) None
