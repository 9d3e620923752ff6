use Rattle.rm_history.proofs.Prefixes.{prefixes_are_in_order}
use Rattle.rm_history.proofs.laws.a_prefix_of_a_history_in_order_is_in_order.Goals as goal

pub returns : goal.returns
returns c = prefixes_are_in_order
