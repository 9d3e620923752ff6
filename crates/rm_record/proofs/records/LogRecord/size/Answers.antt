use Rattle.rm_record.proofs.SizeLaws.{spellings_are_short}
use Rattle.rm_record.proofs.records.LogRecord.size.Goals as goal

pub returns-in-Checkpoint-clause-bound : goal.returns-in-Checkpoint-clause-bound
returns-in-Checkpoint-clause-bound c = λ is. (spellings_are_short c.args.self.now is).1
