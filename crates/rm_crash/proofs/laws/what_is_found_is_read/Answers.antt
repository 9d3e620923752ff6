use Rattle.rm_crash.proofs.Images.{found_is_read}
use Rattle.rm_crash.proofs.laws.what_is_found_is_read.Goals as goal

pub returns : goal.returns
returns c = found_is_read
