use Rattle.rm_image.proofs.CheckpointLaws.{checkpoints_are_records}
use Rattle.rm_image.proofs.image_laws.no_checkpoint_without_its_record.Goals as goal

pub returns : goal.returns
returns c = checkpoints_are_records
