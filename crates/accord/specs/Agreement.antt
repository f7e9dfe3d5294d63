-- Runs of two books over two queues, and what holds wherever a run leads.
use Rattle.std.specs.Prelude.{◌≡◌, ℕ, Bool, true, false, ◌||◌, ◌⊎◌, List, [], ◌∷◌, ◌++◌, Some, Ok, Err, Result, ◌==◌}
use Rattle.refusal.specs.declared.Refusal.{Refusal}
use Rattle.annex.specs.declared.agreed.Annex.{Annex}
use Rattle.amounts.specs.declared.lots.Lot.{Lot}
use Rattle.day.specs.Days.{is_settled}
use Rattle.message.specs.declared.Message.{Message}
use Rattle.message.specs.declared.Message.TheVariants.{Quiet, Call, Offer, Agree, Dispute, Resolve, Delivery, Substitute, Ask, Return, Decline, Satisfied, Release}
use Rattle.secured.specs as secured
use Rattle.secured.specs.declared.state.SecuredState.{SecuredState}
use Rattle.pledgor.specs as pledgor
use Rattle.pledgor.specs.declared.state.PledgorState.{PledgorState}

-- the book after a call: as it was, if the call is refused
abbrev pub after : {S : Type 0} → S → Result (Message × S) Refusal → S
after s (Ok z) = z.1
after s (Err x) = s

-- the queue after a call: what is issued joins its end
abbrev pub joined : {S : Type 0} → List Message → Result (Message × S) Refusal → List Message
joined ms (Ok z) = ms ++ (z.0 ∷ [])
joined ms (Err x) = ms

-- the secured book, the pledgor book, and what each has issued and the other has yet to book, oldest first:
-- two books opened on equal terms, then calls at either, refused or not, and bookings of the oldest message.
-- Weighing a row and setting a finding aside leave all four as they are
pub data Reached : SecuredState → PledgorState → List Message → List Message → Type 0 where
  opening : {p : PledgorState} (a b : Annex) (ls : List Lot) → a.terms ≡ b.terms → pledgor.Opening.opens b ls ≡ Ok p → Reached (secured.Opening.opened a) p [] []
  secured_call : {s : SecuredState} {p : PledgorState} {forth back : List Message} (c : secured.Calls.SecuredCall) →
      Reached s p forth back → Reached (after s (secured.Calls.drafts s c)) p (joined forth (secured.Calls.drafts s c)) back
  pledgor_call : {s : SecuredState} {p : PledgorState} {forth back : List Message} (c : pledgor.Calls.PledgorCall) →
      Reached s p forth back → Reached s (after p (pledgor.Calls.drafts p c)) forth (joined back (pledgor.Calls.drafts p c))
  secured_booking : {s : SecuredState} {p : PledgorState} {forth back : List Message} (m : Message) →
      Reached s p forth (m ∷ back) → secured.Bookings.fits s m ≡ true → Reached (secured.Bookings.books s m) p forth back
  pledgor_booking : {s : SecuredState} {p : PledgorState} {forth back : List Message} (m : Message) →
      Reached s p (m ∷ forth) back → pledgor.Bookings.fits p m ≡ true → Reached s (pledgor.Bookings.books p m) forth back

-- the oldest message of a queue, if any, fits
abbrev pub next_fits : (Message → Bool) → List Message → Bool
next_fits fits [] = true
next_fits fits (m ∷ ms) = fits m

-- some message of a queue passes a test
abbrev pub any : (Message → Bool) → List Message → Bool
any test [] = false
any test (m ∷ ms) = test m || any test ms

-- a Delivery or a Substitute that brings lot k
abbrev pub brings : ℕ → Message → Bool
brings k (Quiet n e) = false
brings k (Call n e a) = false
brings k (Offer n e a) = false
brings k (Agree n) = false
brings k (Dispute n a) = false
brings k (Resolve n e a) = false
brings k (Delivery n l c f) = l == k
brings k (Substitute l c f o) = l == k
brings k (Ask n l) = false
brings k (Return l) = false
brings k (Decline l) = false
brings k (Satisfied n) = false
brings k (Release n) = false

-- a Return of lot k
abbrev pub returns : ℕ → Message → Bool
returns k (Quiet n e) = false
returns k (Call n e a) = false
returns k (Offer n e a) = false
returns k (Agree n) = false
returns k (Dispute n a) = false
returns k (Resolve n e a) = false
returns k (Delivery n l c f) = false
returns k (Substitute l c f o) = false
returns k (Ask n l) = false
returns k (Return l) = l == k
returns k (Decline l) = false
returns k (Satisfied n) = false
returns k (Release n) = false

-- how two books agree, with what is under way forth to the pledgor and back to the secured end
pub record Agreement (s : SecuredState) (p : PledgorState) (forth back : List Message) : Type 0 where
  -- the terms are equal
  pub terms : secured.Lots.terms_of s ≡ pledgor.Lots.terms_of p
  -- the next message to be booked fits
  pub forth_fits : next_fits (pledgor.Bookings.fits p) forth ≡ true
  pub back_fits : next_fits (secured.Bookings.fits s) back ≡ true
  -- with nothing under way the days are equal, and the positions: lot, class and face
  pub same_day : forth ≡ [] → back ≡ [] → s.day ≡ p.day
  pub same_position : forth ≡ [] → back ≡ [] → (k : ℕ) → secured.Lots.position s k ≡ pledgor.Lots.position p k
  -- the secured end's latest day is quiet or satisfied there if the pledgor shows it so
  pub settled : p.day.number ≡ s.day.number → is_settled p.day.state ≡ true → is_settled s.day.state ≡ true
  -- what is in the secured position is in the pledgor's, with equal class and face
  pub held_posted : (k : ℕ) (x : Lot) → secured.Lots.position s k ≡ Some x → pledgor.Lots.position p k ≡ Some x
  -- a lot in only one position is under way: a Delivery or a Substitute brings it, or a Return takes it back
  pub under_way : (k : ℕ) → (secured.Lots.position s k ≡ pledgor.Lots.position p k) ⊎ ((any (brings k) back || any (returns k) forth) ≡ true)
  -- in a quiet or satisfied day uncovered exposure is below the threshold and the pledgor's minimum together
  pub covered : secured.Sound.Covered s

-- wherever a run leads, the two books agree
abbrev pub BooksAgree : Type 0
BooksAgree = (s : SecuredState) (p : PledgorState) (forth back : List Message) → Reached s p forth back → Agreement s p forth back
