use Rattle.std.proofs.Common.{sym, ◌∙◌}
use Rattle.secured.proofs.Sound.{drafted_sound}
use Rattle.secured.proofs.book.SecuredBook.drafted.Goals as goal

pub invariant_of-result : goal.invariant_of-result
invariant_of-result c =
    let b = c.args.self.now in
    let s = drafted_sound b.state (b.ranged, b.kept) c.requires.0 c.in_ok-message.message c.in_ok-message.state (sym c.requires.1 ∙ c.in_ok-message.was) in
    record { ranged = s.0; kept = s.1 }
