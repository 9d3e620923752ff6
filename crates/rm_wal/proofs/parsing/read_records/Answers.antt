use Rattle.rm_wal.proofs.RecordSteps.{reads_one_more}
use Rattle.rm_wal.proofs.parsing.read_records.Goals as goal

pub loop-rest-preserved : goal.loop-rest-preserved
loop-rest-preserved c = rw c.split_at.ensures.back (reads_one_more c.loop-rest.invariant c.in_ok-size.ensures.found)
