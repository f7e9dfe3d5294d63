use Rattle.std.proofs.Common.{◌≡◌, true, rules}
use Rattle.scripted.specs.Opens.{opens}
use Rattle.scripted.proofs.Ranges.{opened}
use Rattle.scripted.proofs.scripted.Scripted.open.Goals as goal

pub returns : goal.returns
returns c =
    let fit : opens c.args.places c.args.script.items ≡ true = search rules in
    record { fit = fit; state = search rules; faults = opened c.args.places c.args.script.items fit }
