-- The relation between the two books and the messages under way.
use Rattle.std.specs.Prelude.{◌≡◌, ℕ, Bool, true, false, ◌⊎◌, List, [], ◌∷◌, length, nat_le}
use Rattle.day.specs.declared.Day.{Day}
use Rattle.message.specs.declared.Message.{Message}
use Rattle.message.specs.declared.Message.TheVariants.{Quiet, Call, Offer, Agree, Dispute, Resolve, Delivery, Substitute, Ask, Return, Decline, Satisfied, Release}
use Rattle.secured.specs.declared.state.SecuredState.{SecuredState}
use Rattle.secured.specs.Bookings.{answer_fits, answered}
use Rattle.secured.specs.Lots as secured
use Rattle.secured.specs.Sound.{Kept}
use Rattle.pledgor.specs.declared.state.PledgorState.{PledgorState}
use Rattle.pledgor.specs.Bookings.{notice_fits, told}
use Rattle.pledgor.specs.Lots as pledgor
use Rattle.pledgor.specs.Sound.{Ranged}
use Rattle.accord.specs.Standing.{Standing, words}

-- every lot stands in one of the nine rows
abbrev pub Lots : SecuredState → PledgorState → List Message → List Message → Type 0
Lots s p forth back = (k : ℕ) → Standing (pledgor.lot_at p k) (words k back) (secured.lot_at s k) (words k forth)

-- the day e follows from d by booking a queue of messages, each of which fits
abbrev pub Follows : (Day → Message → Bool) → (Day → Message → Day) → Day → List Message → Day → Type 0
Follows fits books d [] e = d ≡ e
Follows fits books d (m ∷ ms) e = (fits d m ≡ true) × Follows fits books (books d m) ms e

-- every message of a queue passes a test
abbrev pub Each : (Message → Bool) → List Message → Type 0
Each test [] = Unit {0}
Each test (m ∷ ms) = (test m ≡ true) × Each test ms

-- a message of the pledgor about lots alone, of no day later than n
abbrev pub dated : ℕ → Message → Bool
dated n (Quiet d e) = false
dated n (Call d e a) = false
dated n (Offer d e a) = false
dated n (Agree d) = false
dated n (Dispute d a) = false
dated n (Resolve d e a) = false
dated n (Delivery d l c f) = nat_le d n
dated n (Substitute l c f o) = true
dated n (Ask d l) = nat_le d n
dated n (Return l) = false
dated n (Decline l) = false
dated n (Satisfied d) = false
dated n (Release d) = false

-- a message of the secured end about a lot alone
abbrev pub is_reply : Message → Bool
is_reply (Quiet d e) = false
is_reply (Call d e a) = false
is_reply (Offer d e a) = false
is_reply (Agree d) = false
is_reply (Dispute d a) = false
is_reply (Resolve d e a) = false
is_reply (Delivery d l c f) = false
is_reply (Substitute l c f o) = false
is_reply (Ask d l) = false
is_reply (Return l) = true
is_reply (Decline l) = true
is_reply (Satisfied d) = false
is_reply (Release d) = false

-- either no answer is under way, and the pledgor's day becomes the secured end's by what is; or no notice is, and the
-- secured end's becomes the pledgor's
abbrev pub Days : Day → Day → List Message → List Message → Type 0
Days sd pd forth back = (Follows notice_fits told pd forth sd × Each (dated sd.number) back) ⊎ (Follows answer_fits answered sd back pd × Each is_reply forth)

-- what holds between the two books and what each has issued and the other has yet to book, oldest first
pub record Accord (s : SecuredState) (p : PledgorState) (forth back : List Message) : Type 0 where
  pub terms : secured.terms_of s ≡ pledgor.terms_of p
  pub lots : Lots s p forth back
  pub days : Days s.day p.day forth back
  pub kept : Kept s
  pub size : length s.lots ≡ 32
  pub ranged : Ranged p
