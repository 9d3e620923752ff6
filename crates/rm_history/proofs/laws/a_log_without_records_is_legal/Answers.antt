use Rattle.rm_history.proofs.Prefixes.{empty_is_legal}
use Rattle.rm_history.proofs.laws.a_log_without_records_is_legal.Goals as goal

pub returns : goal.returns
returns c = empty_is_legal
