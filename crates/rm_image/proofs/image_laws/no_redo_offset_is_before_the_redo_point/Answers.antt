use Rattle.rm_image.proofs.CheckpointLaws.{redo_point_is_least}
use Rattle.rm_image.proofs.image_laws.no_redo_offset_is_before_the_redo_point.Goals as goal

pub returns : goal.returns
returns c = redo_point_is_least
