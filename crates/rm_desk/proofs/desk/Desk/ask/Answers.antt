use Rattle.rm_desk.proofs.Standing.{asks_keep}
use Rattle.rm_desk.proofs.desk.Desk.ask.Goals as goal

pub invariant_of-self : goal.invariant_of-self
invariant_of-self c = rw c.put.ensures (asks_keep _ _ _ c.self.invariant _ (rw (← c.self.view_is) at c.requires.known) _ (rw (← c.self.view_is) at c.requires.idle))
