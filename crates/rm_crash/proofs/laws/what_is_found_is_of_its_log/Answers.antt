use Rattle.rm_crash.proofs.Images.{found_is_of_log}
use Rattle.rm_crash.proofs.laws.what_is_found_is_of_its_log.Goals as goal

pub returns : goal.returns
returns c = found_is_of_log
