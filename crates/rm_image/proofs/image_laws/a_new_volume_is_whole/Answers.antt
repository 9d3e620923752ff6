use Rattle.rm_image.proofs.FreshLaws.{fresh_is_whole}
use Rattle.rm_image.proofs.image_laws.a_new_volume_is_whole.Goals as goal

pub returns : goal.returns
returns c = fresh_is_whole
