use Rattle.runs.proofs.Holding.{joins}
use Rattle.runs.proofs.queues_keep_a_relation.Goals as goal

pub returns : goal.returns
returns g c = joins _ _
