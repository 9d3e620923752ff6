use Rattle.rm_image.proofs.SoundLaws.{log_images_are_sound}
use Rattle.rm_image.proofs.image_laws.an_image_of_a_log_alone_is_sound.Goals as goal

pub returns : goal.returns
returns g c = log_images_are_sound g.R.HistoryRules.rules
