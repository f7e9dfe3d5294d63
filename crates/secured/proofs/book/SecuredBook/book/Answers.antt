use Rattle.std.proofs.Common.{◌≡◌, Some, Option, sym, ap, ◌∙◌}
use Rattle.std.specs.Option.{option_map}
use Rattle.std.proofs.lemmas.Option.{cond_some}
use Rattle.message.specs.declared.Message.{Message}
use Rattle.secured.specs.declared.booking.Change.{Change}
use Rattle.secured.specs.declared.state.SecuredState.{SecuredState}
use Rattle.secured.specs.Bookings.{booked, books, fits}
use Rattle.secured.specs.Changes.{changed}
use Rattle.secured.proofs.Sound.{booked_sound}
use Rattle.secured.proofs.book.SecuredBook.book.Goals as goal

-- the book after what a message changes
changed_booked : (s : SecuredState) (m : Message) (r : Option Change) (x : Change) (t : SecuredState) → option_map (changed s) r ≡ booked s m → r ≡ Some x → t ≡ changed s x → booked s m ≡ Some t
changed_booked s m r x t e i h = sym e ∙ ap (option_map (changed s)) i ∙ ap Some (sym h)

pub returns-in-Some-clause-after : goal.returns-in-Some-clause-after
returns-in-Some-clause-after c =
    let s = c.args.self.now.state in
    let m = c.args.message in
    let p = cond_some (fits s m) (books s m) c.make.new.self (changed_booked s m c.booked.result c.in-Some.change c.make.new.self c.booked.ensures.after c.in-Some.is c.make.ensures) in
    rw p.0 (sym p.1)

pub invariant_of-self : goal.invariant_of-self
invariant_of-self c =
    let b = c.args.self.now in
    let e = changed_booked b.state c.args.message c.booked.result c.in-Some.change c.make.new.self c.booked.ensures.after c.in-Some.is c.make.ensures in
    let s = booked_sound b.state (b.ranged, b.kept) c.args.message c.make.new.self e in
    record { ranged = s.0; kept = s.1 }
