use Rattle.rm_history.proofs.PendingLaws.{finished_has_none}
use Rattle.rm_history.proofs.laws.a_finished_transaction_has_nothing_pending.Goals as goal

pub returns : goal.returns
returns c = finished_has_none
