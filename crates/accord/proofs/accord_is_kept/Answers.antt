use Rattle.accord.proofs.Agreement.{joint}
use Rattle.accord.proofs.accord_is_kept.Goals as goal

pub returns : goal.returns
returns c = joint
