use Rattle.rm_history.proofs.Holding.{pages_hold_what_is_committed}
use Rattle.rm_history.proofs.laws.a_page_holds_what_is_committed.Goals as goal

pub returns : goal.returns
returns c = pages_hold_what_is_committed
