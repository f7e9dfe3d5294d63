use Rattle.law.proofs.Goes.{goes}
use Rattle.law.proofs.a_round_can_be_made.Goals as goal

pub returns : goal.returns
returns g c = goes _ _ _
