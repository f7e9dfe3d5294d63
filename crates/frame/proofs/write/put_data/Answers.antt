use Rattle.frame.proofs.Written.{never_short}
use Rattle.frame.proofs.write.put_data.Goals as goal

pub returns-in_err-len : goal.returns-in_err-len
returns-in_err-len c =
    absurd (never_short c.args.message.now _ _ _ _ (rw c.in_ok-end.ensures.ok_part at c.put_body.ensures.puts) c.if-buffer-lt-LONGEST_FRAME.false (rw c.in_err-len.ensures.ok_part at c.put.ensures).0)
