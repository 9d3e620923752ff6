use Rattle.rm_history.proofs.Prefixes.{legal_prefixes}
use Rattle.rm_history.proofs.laws.a_prefix_of_a_legal_history_is_legal.Goals as goal

pub returns : goal.returns
returns c = legal_prefixes
