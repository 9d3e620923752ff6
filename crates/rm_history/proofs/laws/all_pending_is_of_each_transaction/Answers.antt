use Rattle.rm_history.proofs.FallingLsns.{all_pending_is_of_each}
use Rattle.rm_history.proofs.laws.all_pending_is_of_each_transaction.Goals as goal

pub returns : goal.returns
returns c = all_pending_is_of_each
