use Rattle.rm_image.proofs.PastLaws.{pages_past_the_file_are_empty}
use Rattle.rm_image.proofs.image_laws.pages_past_the_file_are_empty.Goals as goal

pub returns : goal.returns
returns c = pages_past_the_file_are_empty
