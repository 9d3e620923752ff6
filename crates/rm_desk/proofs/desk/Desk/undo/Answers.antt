use Rattle.rm_desk.proofs.Looking.{last_is}
use Rattle.rm_desk.proofs.desk.Desk.undo.Goals as goal

pub returns : goal.returns
returns c = rw (← c.self.view_is) (last_is _ _ _ c.self.invariant _ (rw (← c.self.view_is) at c.requires.known) (rw (← c.self.view_is) at c.requires.active) _ c.last.ensures)
