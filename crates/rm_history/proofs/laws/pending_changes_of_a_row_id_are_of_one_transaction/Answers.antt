use Rattle.rm_history.proofs.PendingLaws.{pending_is_of_one}
use Rattle.rm_history.proofs.laws.pending_changes_of_a_row_id_are_of_one_transaction.Goals as goal

pub returns : goal.returns
returns c = pending_is_of_one
