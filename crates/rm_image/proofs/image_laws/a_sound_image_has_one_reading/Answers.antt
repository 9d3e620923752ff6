use Rattle.rm_image.proofs.SoundLaws.{sound_images_are_one}
use Rattle.rm_image.proofs.image_laws.a_sound_image_has_one_reading.Goals as goal

pub returns : goal.returns
returns g c = sound_images_are_one g.R.HistoryRules.rules
