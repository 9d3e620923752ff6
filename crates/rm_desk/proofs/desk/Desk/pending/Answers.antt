use Rattle.rm_desk.proofs.Looking.{newest_is}
use Rattle.rm_desk.proofs.desk.Desk.pending.Goals as goal

pub returns : goal.returns
returns c = rw (← c.self.view_is) (let is = newest_is _ _ _ c.self.invariant _ (rw (← c.self.view_is) at c.requires.known) (rw (← c.self.view_is) at c.requires.active) _ c.newest.ensures in record { value = is.0; inside = is.1 })
