use Rattle.rm_history.proofs.Holding.{settled_when_nothing_is_pending}
use Rattle.rm_history.proofs.laws.nothing_pending_means_settled.Goals as goal

pub returns : goal.returns
returns c = settled_when_nothing_is_pending
