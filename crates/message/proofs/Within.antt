-- What a message that is in its ranges is.
use Rattle.std.proofs.Common.{◌≡◌, None, arith}
use Rattle.std.proofs.lemmas.Int.{ints}
use Rattle.std.proofs.lemmas.Bool.Decides.{nat_tests}
use Rattle.message.specs.declared.Message.{Message}
use Rattle.message.specs.declared.Message.TheVariants.{Quiet}
use Rattle.message.specs.Ranges.{unfit_of}
use Rattle.message.specs.Bodies.{Typed}

-- a message in its ranges is within its bytes
pub typed : (m : Message) → unfit_of m ≡ None → Typed m
typed (Quiet day exposure) h = grind (arith, ints, nat_tests)
typed m h = grind (arith, ints, nat_tests)
