-- Booking: which messages of the secured end fit the pledgor book, and the book after one.
use Rattle.std.specs.Prelude.{ℕ, Bool, true, false, cond, ◌&&◌, List, Some, None, Option, ◌==◌, nat_lt, slice_set}
use Rattle.amounts.specs.declared.lots.Place.TheVariants.{Home, Posted}
use Rattle.amounts.specs.declared.lots.PledgorLot.{PledgorLot}
use Rattle.day.specs.declared.Day.{Day}
use Rattle.day.specs.declared.DayState.TheVariants as day
use Rattle.day.specs.Days.{day_in, is_closing, is_disputed, is_ended}
use Rattle.message.specs.declared.Message.{Message}
use Rattle.message.specs.declared.Message.TheVariants.{Quiet, Call, Offer, Agree, Dispute, Resolve, Delivery, Substitute, Ask, Return, Decline, Satisfied, Release}
use Rattle.pledgor.specs.declared.state.PledgorState.{PledgorState}
use Rattle.pledgor.specs.Lots.{is_asked, lot_at, moved}

-- what fits the day: a later day after an ended one; Resolve of a disputed, Satisfied of a closing one
abbrev pub notice_fits : Day → Message → Bool
notice_fits d (Quiet n e) = is_ended d.state && nat_lt d.number n
notice_fits d (Call n e a) = is_ended d.state && nat_lt d.number n
notice_fits d (Offer n e a) = is_ended d.state && nat_lt d.number n
notice_fits d (Agree n) = false
notice_fits d (Dispute n a) = false
notice_fits d (Resolve n e a) = is_disputed d.state && n == d.number
notice_fits d (Delivery n l c f) = false
notice_fits d (Substitute l c f o) = false
notice_fits d (Ask n l) = false
notice_fits d (Return l) = true
notice_fits d (Decline l) = true
notice_fits d (Satisfied n) = is_closing d.state && n == d.number
notice_fits d (Release n) = false

-- the day after
abbrev pub told : Day → Message → Day
told d (Quiet n e) = record { state = day.Quiet; number = n; amount = 0 }
told d (Call n e a) = record { state = day.Called; number = n; amount = a }
told d (Offer n e a) = record { state = day.Offered; number = n; amount = a }
told d (Agree n) = d
told d (Dispute n a) = d
told d (Resolve n e a) = record { state = day.Resolved; number = d.number; amount = a }
told d (Delivery n l c f) = d
told d (Substitute l c f o) = d
told d (Ask n l) = d
told d (Return l) = d
told d (Decline l) = d
told d (Satisfied n) = day_in d day.Satisfied
told d (Release n) = d

-- a lot that is asked back
abbrev pub asked_at : PledgorState → ℕ → Bool
asked_at p l = nat_lt l 32 && is_asked (lot_at p l).place

-- what fits the lots
abbrev pub lots_fit : PledgorState → Message → Bool
lots_fit p (Quiet n e) = true
lots_fit p (Call n e a) = true
lots_fit p (Offer n e a) = true
lots_fit p (Agree n) = false
lots_fit p (Dispute n a) = false
lots_fit p (Resolve n e a) = true
lots_fit p (Delivery n l c f) = false
lots_fit p (Substitute l c f o) = false
lots_fit p (Ask n l) = false
lots_fit p (Return l) = asked_at p l
lots_fit p (Decline l) = asked_at p l
lots_fit p (Satisfied n) = true
lots_fit p (Release n) = false

-- the lots after
abbrev pub lots_after : PledgorState → Message → List PledgorLot
lots_after p (Quiet n e) = p.lots
lots_after p (Call n e a) = p.lots
lots_after p (Offer n e a) = p.lots
lots_after p (Agree n) = p.lots
lots_after p (Dispute n a) = p.lots
lots_after p (Resolve n e a) = p.lots
lots_after p (Delivery n l c f) = p.lots
lots_after p (Substitute l c f o) = p.lots
lots_after p (Ask n l) = p.lots
lots_after p (Return l) = slice_set p.lots l (moved (lot_at p l) Home)
lots_after p (Decline l) = slice_set p.lots l (moved (lot_at p l) Posted)
lots_after p (Satisfied n) = p.lots
lots_after p (Release n) = p.lots

-- a message that can be booked
abbrev pub fits : PledgorState → Message → Bool
fits p m = notice_fits p.day m && lots_fit p m

-- the book after one that fits
abbrev pub books : PledgorState → Message → PledgorState
books p m = record { annex = p.annex; day = told p.day m; count = p.count; lots = lots_after p m }

-- the book after a message, if it fits
abbrev pub booked : PledgorState → Message → Option PledgorState
booked p m = cond (fits p m) (Some (books p m)) None
