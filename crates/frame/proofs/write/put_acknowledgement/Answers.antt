use Rattle.std.proofs.Common.{sym}
use Rattle.frame.proofs.Written.{alone}
use Rattle.frame.proofs.write.put_acknowledgement.Goals as goal

pub returns : goal.returns
returns c = rw c.ok_or.ensures.value (alone c.args.acknowledgement _ _ _ c.put.ensures c.if-buffer-lt-LONGEST_FRAME.false (sym c.if-not-acknowledgement_fits.ensures))
