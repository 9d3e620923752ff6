use Rattle.rm_image.proofs.FreshLaws.{fresh_is_sound}
use Rattle.rm_image.proofs.image_laws.a_new_volume_is_sound.Goals as goal

pub returns : goal.returns
returns g c = fresh_is_sound g.R.HistoryRules.rules
