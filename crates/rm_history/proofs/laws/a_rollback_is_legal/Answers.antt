use Rattle.rm_history.proofs.Rollbacks.{rollbacks_are_legal}
use Rattle.rm_history.proofs.laws.a_rollback_is_legal.Goals as goal

pub returns : goal.returns
returns c = rollbacks_are_legal
