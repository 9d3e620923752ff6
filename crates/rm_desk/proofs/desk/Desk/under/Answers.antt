use Rattle.rm_desk.proofs.Looking.{under_is}
use Rattle.rm_desk.proofs.desk.Desk.under.Goals as goal

pub returns : goal.returns
returns c = rw (← c.self.view_is) (let is = under_is _ _ _ c.self.invariant _ (rw (← c.self.view_is) at c.requires.known) (rw (← c.self.view_is) at c.requires.active) _ c.under.ensures in record { value = is.0; falls = is.1 })
