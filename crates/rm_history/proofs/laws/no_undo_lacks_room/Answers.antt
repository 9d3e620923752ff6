use Rattle.rm_history.proofs.UndoTheorem.{no_undo_lacks_room}
use Rattle.rm_history.proofs.laws.no_undo_lacks_room.Goals as goal

pub returns : goal.returns
returns c = no_undo_lacks_room
