use Rattle.std.proofs.Common.{arith, refl}
use Rattle.std.proofs.lemmas.Grind.{common_steps}
use Rattle.words.proofs.Runs.{one_missing, one_more}
use Rattle.words.specs.Words.{Calls}
use Rattle.words.proofs.Words.fill.Goals as goal

pub returns-in_err-place : goal.returns-in_err-place
returns-in_err-place g c =
    let run = c.loop-place.invariant in
    one_missing (Calls (goal.F-post g c.args.read)) _ _ c.loop-place.places _ c.loop-place.place-index _ _ _ run.all (omega (arith, run.all, c.loop-place-test.true)) run.read
    (record { shown = _; shows = refl; back = _; met = c.in_err-place.ensures; leaves = refl }) c.from_residual.ensures

pub loop-place-preserved : goal.loop-place-preserved
loop-place-preserved g c =
    let run = c.loop-place.invariant in
    record {
      callable = run.callable;
      all = grind (arith, common_steps);
      read = one_more (Calls (goal.F-post g c.args.read)) _ _ c.loop-place.places c.loop-place.place-index _ _ _ run.all (omega (arith, run.all, c.loop-place-test.true)) run.read
          (record { shown = _; shows = refl; back = _; met = c.in_ok-place.ensures; leaves = refl });
    }
