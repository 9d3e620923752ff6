use Rattle.std.proofs.Common.{◌∙◌, sym}
use Rattle.rm_record.proofs.SizeLaws.{change_short, spellings_are_short}
use Rattle.rm_record.proofs.records.LogRecord.most_bytes.Goals as goal

pub returns-then-first-eq-CHECKPOINT-clause-enough : goal.returns-then-first-eq-CHECKPOINT-clause-enough
returns-then-first-eq-CHECKPOINT-clause-enough c = λ logged is begins. (spellings_are_short logged is).1

pub returns-else-first-eq-CHECKPOINT-clause-enough : goal.returns-else-first-eq-CHECKPOINT-clause-enough
returns-else-first-eq-CHECKPOINT-clause-enough c = λ logged is begins. change_short logged is (λ kind. c.if-first-eq-CHECKPOINT.false (sym begins ∙ kind))
