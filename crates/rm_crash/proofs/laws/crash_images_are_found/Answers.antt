use Rattle.rm_crash.proofs.Crashes.{crash_images_are_found}
use Rattle.rm_crash.proofs.laws.crash_images_are_found.Goals as goal

pub returns : goal.returns
returns c = crash_images_are_found
