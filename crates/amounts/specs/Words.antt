-- The words of notices, of a lot's states and of its places.
use Rattle.std.specs.Prelude.{◌≡◌, ◌≢◌, ℕ, List, ◌++◌, Some, None, Ok, Err, Option, Result, codes, decimal}
use Rattle.amounts.specs.declared.lots.Lot.{Lot}
use Rattle.amounts.specs.declared.lots.Place.{Place}
use Rattle.amounts.specs.declared.lots.UnknownPlace.{UnknownPlace}
use Rattle.amounts.specs.declared.lots.Place.TheVariants.{Home, Posted, Asked}
use Rattle.amounts.specs.declared.lots.SecuredLot.{SecuredLot}
use Rattle.amounts.specs.declared.lots.SecuredLot.TheVariants.{Absent, Held, OwedBack, DeclineOwed}
use Rattle.amounts.specs.declared.weighing.Notice.{Notice}
use Rattle.amounts.specs.declared.weighing.Notice.TheVariants.{Quiet, Call, Offer}
use Rattle.amounts.specs.Lots.{lot_of}

abbrev pub notice_words : Notice → List ℕ
notice_words Quiet = codes "quiet"
notice_words (Call amount) = codes "call " ++ decimal amount
notice_words (Offer amount) = codes "offer " ++ decimal amount

abbrev pub state_word : SecuredLot → List ℕ
state_word Absent = codes "absent"
state_word (Held l) = codes "held"
state_word (OwedBack l) = codes "owed-back"
state_word (DeclineOwed l) = codes "decline-owed"

abbrev pub place_word : Place → List ℕ
place_word Home = codes "home"
place_word Posted = codes "posted"
place_word Asked = codes "asked"

-- a lot in the state that a word names; none where the word names no state of a lot
abbrev pub InState : List ℕ → Lot → Option SecuredLot → Type 0
InState word lot (Some s) = (word ≡ state_word s) × (lot_of s ≡ Some lot)
InState word lot None = (s : SecuredLot) → lot_of s ≡ Some lot → word ≢ state_word s

-- a word is read as the place whose word it is, and refused where it is the word of none
abbrev pub PlaceRead : List ℕ → Result Place UnknownPlace → Type 0
PlaceRead word (Ok place) = word ≡ place_word place
PlaceRead word (Err e) = (place : Place) → word ≢ place_word place
