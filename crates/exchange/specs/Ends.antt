-- What the two ends of an annex do, by their books and the messages under way to them, oldest first.
use Rattle.std.specs.Prelude.{◌≡◌, Bool, if◌then◌else◌, List, [], ◌∷◌, ◌++◌, Result, Ok, Err}
use Rattle.refusal.specs.declared.Refusal.{Refusal}
use Rattle.annex.specs.declared.agreed.Annex.{Annex}
use Rattle.amounts.specs.declared.lots.Lot.{Lot}
use Rattle.message.specs.declared.Message.{Message}
use Rattle.secured.specs.Opening as secured
use Rattle.pledgor.specs.Opening as pledgor
use Rattle.exchange.specs.declared.BookingError.{BookingError}
use Rattle.exchange.specs.declared.BookingError.TheVariants.{NothingUnderWay, Misfit}
use Rattle.exchange.specs.declared.Exchange.{Exchange}
use Rattle.exchange.specs.declared.IssueError.{IssueError}
use Rattle.exchange.specs.declared.IssueError.TheVariants.{Refused, Memory}

-- what is drafted is taken: the message joins those under way and the book is the one drafted. A refusal, and a message
-- for which there is not enough memory, leave both as they were
abbrev pub Issued : {B : Type 0} → B → List Message → Result (Message × B) Refusal → Result Message IssueError → B → List Message → Type 0
Issued b ms (Ok d) (Ok m) c ns = (m ≡ d.0) × (c ≡ d.1) × (ns ≡ ms ++ (m ∷ []))
Issued b ms (Ok d) (Err e) c ns = (e ≡ Memory) × (c ≡ b) × (ns ≡ ms)
Issued b ms (Err r) result c ns = (result ≡ Err (Refused r)) × (c ≡ b) × (ns ≡ ms)

-- the oldest message is taken from those under way and booked, and is the answer exactly where it fits
abbrev pub BooksNext : {B : Type 0} → (B → Message → Bool → B → Type 0) → B → List Message → Result Message BookingError → B → List Message → Type 0
BooksNext gives b [] result c ns = (result ≡ Err NothingUnderWay) × (c ≡ b) × (ns ≡ [])
BooksNext gives b (m ∷ ms) result c ns = (fit : Bool) × gives b m fit c × (result ≡ (if fit then Ok m else Err (Misfit m))) × (ns ≡ ms)

-- two books as opened on an annex, with nothing under way; refused where the pledgor's is
abbrev pub Opened : Annex → List Lot → Result Exchange Refusal → Type 0
Opened annex lots (Ok e) = (e.secured.book.state ≡ secured.opened annex) × (e.secured.inbox.items ≡ []) × (pledgor.opens annex lots ≡ Ok e.pledgor.book.state) × (e.pledgor.inbox.items ≡ [])
Opened annex lots (Err r) = pledgor.opens annex lots ≡ Err r
