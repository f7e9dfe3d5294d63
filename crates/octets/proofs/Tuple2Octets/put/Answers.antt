use Rattle.octets.proofs.Fronts.{both}
use Rattle.octets.proofs.Tuple2Octets.put.Goals as goal

pub returns : goal.returns
returns g c = both _ _ _ _ _ _ _ c.in_ok-first.ensures c.in_ok-second.ensures
