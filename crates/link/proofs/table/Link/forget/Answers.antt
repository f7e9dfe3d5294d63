use Rattle.std.proofs.Common.{arith}
use Rattle.std.proofs.lemmas.List.{length-take-le}
use Rattle.link.specs.Kept.{kept}
use Rattle.link.proofs.Ranges.{ranged_forget}
use Rattle.link.proofs.Tables.{turned}
use Rattle.link.proofs.table.Link.forget.Goals as goal

pub invariant_of-self-clause-ranged : goal.invariant_of-self-clause-ranged
invariant_of-self-clause-ranged c =
    let s = c.args.self.now in
    rw (c.rotate_left.ensures.after, turned s.state.table s.state.count c.args.gone c.requires (omega arith))
    (ranged_forget c.args.gone (kept s.state) (omega (arith, length-take-le s.state.count s.state.table)) s.ranged)
