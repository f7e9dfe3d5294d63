-- What a layer above needs of a relation between two books and two queues, to carry it over its own runs.
use Rattle.std.specs.Prelude.{◌≡◌, true, List, [], ◌∷◌, ◌++◌, Ok}
use Rattle.annex.specs.declared.agreed.Annex.{Annex}
use Rattle.amounts.specs.declared.lots.Lot.{Lot}
use Rattle.message.specs.declared.Message.{Message}
use Rattle.secured.specs as secured
use Rattle.secured.specs.declared.state.SecuredState.{SecuredState}
use Rattle.pledgor.specs as pledgor
use Rattle.pledgor.specs.declared.state.PledgorState.{PledgorState}
use Rattle.accord.specs.Accord.{Accord}
use Rattle.accord.specs.Agreement.{Agreement}

-- openings establish the relation, every call that issues and every booking of the oldest message keeps it, and under it
-- that message fits and the books agree
pub record Joint (J : SecuredState → PledgorState → List Message → List Message → Type 0) : Type 0 where
  pub opening : (a b : Annex) (ls : List Lot) (p : PledgorState) → a.terms ≡ b.terms → pledgor.Opening.opens b ls ≡ Ok p → J (secured.Opening.opened a) p [] []
  pub secured_issue : {s t : SecuredState} {p : PledgorState} {forth back : List Message} (c : secured.Calls.SecuredCall) (m : Message) →
      J s p forth back → secured.Calls.drafts s c ≡ Ok (m, t) → J t p (forth ++ (m ∷ [])) back
  pub pledgor_issue : {s : SecuredState} {p q : PledgorState} {forth back : List Message} (c : pledgor.Calls.PledgorCall) (m : Message) →
      J s p forth back → pledgor.Calls.drafts p c ≡ Ok (m, q) → J s q forth (back ++ (m ∷ []))
  pub forth_fits : {s : SecuredState} {p : PledgorState} {forth back : List Message} (m : Message) → J s p (m ∷ forth) back → pledgor.Bookings.fits p m ≡ true
  pub back_fits : {s : SecuredState} {p : PledgorState} {forth back : List Message} (m : Message) → J s p forth (m ∷ back) → secured.Bookings.fits s m ≡ true
  pub pledgor_booking : {s : SecuredState} {p : PledgorState} {forth back : List Message} (m : Message) → J s p (m ∷ forth) back → J s (pledgor.Bookings.books p m) forth back
  pub secured_booking : {s : SecuredState} {p : PledgorState} {forth back : List Message} (m : Message) → J s p forth (m ∷ back) → J (secured.Bookings.books s m) p forth back
  pub agrees : {s : SecuredState} {p : PledgorState} {forth back : List Message} → J s p forth back → Agreement s p forth back

-- the accord is such a relation
abbrev pub AccordIsKept : Type 0
AccordIsKept = Joint Accord
