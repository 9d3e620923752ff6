use Rattle.rm_image.proofs.CheckpointLaws.{checkpoints_are_one}
use Rattle.rm_image.proofs.image_laws.a_master_names_one_checkpoint.Goals as goal

pub returns : goal.returns
returns c = checkpoints_are_one
