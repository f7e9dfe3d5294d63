use Rattle.frame.proofs.Once.{frames_differ}
use Rattle.frame.proofs.Written.{writes_once, written_reads_back}
use Rattle.frame.proofs.write.write_data.Goals as goal

pub returns : goal.returns
returns c = record { writes = c.put_data.ensures; once = writes_once; back = written_reads_back; differ = frames_differ }
