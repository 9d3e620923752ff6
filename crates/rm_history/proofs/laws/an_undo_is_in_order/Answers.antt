use Rattle.rm_history.proofs.UndoTheorem.{undoes_are_in_order}
use Rattle.rm_history.proofs.laws.an_undo_is_in_order.Goals as goal

pub returns : goal.returns
returns c = undoes_are_in_order
