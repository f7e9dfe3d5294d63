use Rattle.std.proofs.Common.{sym, ◌∙◌}
use Rattle.pledgor.proofs.Ranges.{drafted_ranged}
use Rattle.pledgor.proofs.book.PledgorBook.drafted.Goals as goal

pub invariant_of-result : goal.invariant_of-result
invariant_of-result c =
    let b = c.args.self.now in
    record { ranged = drafted_ranged b.state b.ranged c.requires.0 c.in_ok-message.message c.in_ok-message.state (sym c.requires.1 ∙ c.in_ok-message.was) }
