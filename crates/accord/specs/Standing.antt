-- One lot at both ends, and what is under way about it.
use Rattle.std.specs.Prelude.{ℕ, Bool, cond, List, [], ◌∷◌, ◌++◌, ◌==◌}
use Rattle.amounts.specs.declared.lots.Lot.{Lot}
use Rattle.amounts.specs.declared.lots.Place.TheVariants.{Home, Posted, Asked}
use Rattle.amounts.specs.declared.lots.PledgorLot.{PledgorLot}
use Rattle.amounts.specs.declared.lots.SecuredLot.{SecuredLot}
use Rattle.amounts.specs.declared.lots.SecuredLot.TheVariants.{Absent, Held, OwedBack, DeclineOwed}
use Rattle.message.specs.declared.Message.{Message}
use Rattle.message.specs.declared.Message.TheVariants.{Quiet, Call, Offer, Agree, Dispute, Resolve, Delivery, Substitute, Ask, Return, Decline, Satisfied, Release}
use Rattle.secured.specs.Bookings.{lot_of}

-- what a message says about one lot: that it is new or old, from the pledgor; returned or declined, from the secured end
pub data Word : Type 0 where
  new : Lot → Word
  old : Word
  returned : Word
  declined : Word

-- a word, where the test holds
abbrev pub only : Bool → Word → List Word
only b w = cond b (w ∷ []) []

-- what a message says about lot k; a Substitute says it of its old lot first
abbrev pub about : ℕ → Message → List Word
about k (Quiet n e) = []
about k (Call n e a) = []
about k (Offer n e a) = []
about k (Agree n) = []
about k (Dispute n a) = []
about k (Resolve n e a) = []
about k (Delivery n l c f) = only (l == k) (new (lot_of c f))
about k (Substitute l c f o) = only (o == k) old ++ only (l == k) (new (lot_of c f))
about k (Ask n l) = only (l == k) old
about k (Return l) = only (l == k) returned
about k (Decline l) = only (l == k) declined
about k (Satisfied n) = []
about k (Release n) = []

-- what a queue says about lot k
abbrev pub words : ℕ → List Message → List Word
words k [] = []
words k (m ∷ ms) = about k m ++ words k ms

-- the nine rows of a lot: its entry at the pledgor, what is under way about it from there, its entry at the secured end,
-- what is under way about it from there
pub data Standing : PledgorLot → List Word → SecuredLot → List Word → Type 0 where
  home : {x : Lot} → Standing (record { place = Home; lot = x }) [] Absent []
  sent : {x : Lot} → Standing (record { place = Posted; lot = x }) (new x ∷ []) Absent []
  held : {x : Lot} → Standing (record { place = Posted; lot = x }) [] (Held x) []
  sent_asked : {x : Lot} → Standing (record { place = Asked; lot = x }) (new x ∷ old ∷ []) Absent []
  asked : {x : Lot} → Standing (record { place = Asked; lot = x }) (old ∷ []) (Held x) []
  owed_back : {x : Lot} → Standing (record { place = Asked; lot = x }) [] (OwedBack x) []
  decline_owed : {x : Lot} → Standing (record { place = Asked; lot = x }) [] (DeclineOwed x) []
  back : {x : Lot} → Standing (record { place = Asked; lot = x }) [] Absent (returned ∷ [])
  refused : {x : Lot} → Standing (record { place = Asked; lot = x }) [] (Held x) (declined ∷ [])
