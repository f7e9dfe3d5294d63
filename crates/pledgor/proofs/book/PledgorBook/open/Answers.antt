use Rattle.std.proofs.Common.{length, sym, subst, arith}
use Rattle.pledgor.specs.Sound.{Ranged}
use Rattle.pledgor.proofs.Ranges.{opened_ranged}
use Rattle.pledgor.proofs.book.PledgorBook.open.Goals as goal

pub invariant_of-result : goal.invariant_of-result
invariant_of-result c =
    let r = opened_ranged c.args.annex c.args.lots.now (omega arith) (sym c.if-not-all_fit.ensures) in
    record { ranged = subst (λ ls. Ranged (record { annex = c.args.annex; day = c.none.result; count = length c.args.lots.now; lots = ls })) (sym c.table.ensures) r }
