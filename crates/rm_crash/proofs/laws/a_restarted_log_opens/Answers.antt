use Rattle.rm_crash.proofs.Crashes.{restarted_logs_open}
use Rattle.rm_crash.proofs.laws.a_restarted_log_opens.Goals as goal

pub returns : goal.returns
returns c = restarted_logs_open
