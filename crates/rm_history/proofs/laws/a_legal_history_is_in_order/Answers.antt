use Rattle.rm_history.proofs.Prefixes.{legal_is_in_order}
use Rattle.rm_history.proofs.laws.a_legal_history_is_in_order.Goals as goal

pub returns : goal.returns
returns c = legal_is_in_order
