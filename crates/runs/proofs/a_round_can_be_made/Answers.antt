use Rattle.runs.proofs.Going.{goes}
use Rattle.runs.proofs.a_round_can_be_made.Goals as goal

pub returns : goal.returns
returns g c = goes _ _
