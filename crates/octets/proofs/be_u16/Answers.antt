use Rattle.std.proofs.Common.{rules}
use Rattle.octets.specs.Numbers.{bytes_of}
use Rattle.octets.proofs.be_u16.Goals as goal

pub returns : goal.returns
unfolding bytes_of
returns c = search rules
