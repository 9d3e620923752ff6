use Rattle.std.proofs.Common.{rules}
use Rattle.rm_wal.proofs.Logs.{flushing, flush_done}
use Rattle.rm_wal.proofs.log.Log.flush.Goals as goal

pub returns-in_err-written-clause-steps : goal.returns-in_err-written-clause-steps
returns-in_err-written-clause-steps g c = (flushing (search rules) (search rules), c.write_batch-written.ensures.writes.1)

pub returns-clause-steps : goal.returns-clause-steps
returns-clause-steps g c = (flushing (search rules) (search rules), c.write_batch-written.ensures.writes.1)

pub returns-clause-done : goal.returns-clause-done
returns-clause-done g c = flush_done (search rules) (search rules) (search rules) (search rules)
