use Rattle.std.proofs.Common.{Some, sym, ap, ◌∙◌}
use Rattle.std.specs.Option.{option_map}
use Rattle.pledgor.specs.Changes.{changed}
use Rattle.pledgor.proofs.Ranges.{booked_ranged}
use Rattle.pledgor.proofs.book.PledgorBook.book.Goals as goal

pub invariant_of-self : goal.invariant_of-self
invariant_of-self c =
    let b = c.args.self.now in
    let e = sym c.booked.ensures.after ∙ ap (option_map (changed b.state)) c.in-Some.is in
    record { ranged = booked_ranged b.state b.ranged c.args.message c.make.new.self (e ∙ ap Some (sym c.make.ensures)) }
