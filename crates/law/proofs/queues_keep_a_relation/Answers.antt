use Rattle.law.proofs.Queues.{joins}
use Rattle.law.proofs.queues_keep_a_relation.Goals as goal

pub returns : goal.returns
returns g c = joins _ _ _
