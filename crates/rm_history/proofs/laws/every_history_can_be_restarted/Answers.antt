use Rattle.rm_history.proofs.Restarts.{restarts_exist}
use Rattle.rm_history.proofs.laws.every_history_can_be_restarted.Goals as goal

pub returns : goal.returns
returns c = restarts_exist
