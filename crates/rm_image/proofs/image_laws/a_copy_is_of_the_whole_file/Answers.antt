use Rattle.rm_image.proofs.SoundLaws.{copies_are_of_the_file}
use Rattle.rm_image.proofs.image_laws.a_copy_is_of_the_whole_file.Goals as goal

pub returns : goal.returns
returns g c = copies_are_of_the_file g.R.HistoryRules.rules
