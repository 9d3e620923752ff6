use Rattle.rm_history.proofs.Restarts.{restarts_are_legal}
use Rattle.rm_history.proofs.laws.restart_is_legal.Goals as goal

pub returns : goal.returns
returns c = restarts_are_legal
