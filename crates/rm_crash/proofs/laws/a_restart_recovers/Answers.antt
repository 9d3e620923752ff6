use Rattle.rm_crash.proofs.Crashes.{restarts_recover}
use Rattle.rm_crash.proofs.laws.a_restart_recovers.Goals as goal

pub returns : goal.returns
returns c = restarts_recover
