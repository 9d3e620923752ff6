use Rattle.rm_history.proofs.UndoBytes.{undo_bytes_go_down}
use Rattle.rm_history.proofs.laws.undo_bytes_go_down.Goals as goal

pub returns : goal.returns
returns c = undo_bytes_go_down
