use Rattle.rm_image.proofs.RedoLaws.{redo_brings_entries_up}
use Rattle.rm_image.proofs.redo_brings_entries_up.Goals as goal

pub returns : goal.returns
returns c = redo_brings_entries_up
