use Rattle.rm_image.proofs.RedoneLaws.{whole_images_are_redone}
use Rattle.rm_image.proofs.image_laws.redo_completes_whole_images.Goals as goal

pub returns : goal.returns
returns c = whole_images_are_redone
