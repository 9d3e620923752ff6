use Rattle.rm_history.proofs.NetLaws.{net_is_pending}
use Rattle.rm_history.proofs.laws.net_changes_are_pending.Goals as goal

pub returns : goal.returns
returns c = net_is_pending
