use Rattle.rm_history.proofs.Rollbacks.{partial_rollbacks_are_legal}
use Rattle.rm_history.proofs.laws.a_partial_rollback_is_legal.Goals as goal

pub returns : goal.returns
returns c = partial_rollbacks_are_legal
