use Rattle.std.proofs.Common.{◌≡◌, ◌-◌, ◌<◌, ◌++◌, map, length, drop, set, replicate, ap, ◌∙◌, add-one, arith}
use Rattle.std.proofs.lemmas.List.{drop-replicate, take_all}
use Rattle.pledgor.specs.Lots.{no_lot}
use Rattle.pledgor.specs.Opening.{at_home}
use Rattle.pledgor.proofs.Tables.{fill_more}
use Rattle.pledgor.proofs.opens.table.Goals as goal

pub loop-at-preserved : goal.loop-at-preserved
loop-at-preserved c =
    let i = c.loop-at.at in
    let xs = c.args.lots.now in
    let h : i < length xs = omega arith in
    let k : i < length (replicate 32 no_lot) = omega arith in
    rw add-one (ap (λ ys. set ys i (at_home (lib.ListN.get_or xs i no_lot.lot))) c.loop-at.invariant ∙ fill_more at_home xs (replicate 32 no_lot) i no_lot.lot h k)

pub returns : goal.returns
returns c =
    let i = c.loop-at.at in
    let xs = c.args.lots.now in
    let e : i ≡ length xs = omega arith in
    c.loop-at.invariant ∙ ap (λ ys. map at_home ys ++ drop i (replicate 32 no_lot)) (take_all i xs (omega arith)) ∙ ap (λ ys. map at_home xs ++ ys) (drop-replicate i 32 no_lot ∙ ap (λ k. replicate (32 - k) no_lot) e)
