use Rattle.rm_history.proofs.PendingLaws.{pending_is_chained}
use Rattle.rm_history.proofs.laws.pending_changes_are_a_chain.Goals as goal

pub returns : goal.returns
returns c = pending_is_chained
