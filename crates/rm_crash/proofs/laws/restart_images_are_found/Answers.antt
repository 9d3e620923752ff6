use Rattle.rm_crash.proofs.Crashes.{restart_images_are_found}
use Rattle.rm_crash.proofs.laws.restart_images_are_found.Goals as goal

pub returns : goal.returns
returns c = restart_images_are_found
