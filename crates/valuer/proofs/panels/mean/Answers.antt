use Rattle.std.proofs.Common.{◌<◌, leb, length, get_or, pos, ◌+ℤ◌, arith, leb-true}
use Rattle.std.proofs.lemmas.Int.{ints}
use Rattle.std.proofs.lemmas.Bool.{and_parts}
use Rattle.std.proofs.lemmas.List.Sums.{fold_more}
use Rattle.std.specs.List.{list_all}
use Rattle.annex.specs.Row.{exposure_fits}
use Rattle.annex.proofs.Ranges.{exposure_range}
use Rattle.annex.proofs.Tests.{every_at}
use Rattle.valuer.proofs.panels.mean.Goals as goal

pub loop-quote-preserved : goal.loop-quote-preserved
loop-quote-preserved c =
    let i = c.loop-quote.quote-index in
    let qs = c.args.quotes.now in
    let parts = and_parts (leb (length qs) 4) (list_all exposure_fits qs) c.requires in
    let few = leb-true (length qs) 4 parts.0 in
    let r = exposure_range (get_or qs i (pos 0)) (every_at exposure_fits (pos 0) qs parts.1 i (omega arith)) in
    let m = fold_more ◌+ℤ◌ (pos 0) qs i (pos 0) (omega arith) in
    let l : i < 4 = omega arith in
    (omega (arith, ints, m, r), omega (arith, ints, r), omega (arith, ints, r))
