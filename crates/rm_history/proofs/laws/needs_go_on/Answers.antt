use Rattle.rm_history.proofs.NeedChains.{needs_go_on}
use Rattle.rm_history.proofs.laws.needs_go_on.Goals as goal

pub returns : goal.returns
returns c = needs_go_on
