use Rattle.std.proofs.Common.{length, arith}
use Rattle.rm_memory.proofs.StepLaws.{counts_no_byte}
use Rattle.rm_memory.proofs.volume.MemVolumeVolume.read.Goals as goal

pub returns-then-due-clause-log_bytes_err : goal.returns-then-due-clause-log_bytes_err
returns-then-due-clause-log_bytes_err c = counts_no_byte c.args.area (length c.args.into.now) c.args.self.now.log_reads (omega arith)
