use Rattle.rm_history.proofs.Restarts.{restarts_compensate_all}
use Rattle.rm_history.proofs.laws.restart_compensates_each_pending_change.Goals as goal

pub returns : goal.returns
returns c = restarts_compensate_all
