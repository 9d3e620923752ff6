use Rattle.rm_history.proofs.Readings.{log_once}
use Rattle.rm_history.proofs.laws.an_area_has_one_log.Goals as goal

pub returns : goal.returns
returns c = λ area batches others has other. log_once area batches others has other
