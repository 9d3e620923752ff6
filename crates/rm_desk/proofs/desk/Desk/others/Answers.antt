use Rattle.rm_desk.proofs.Looking.{others_is}
use Rattle.rm_desk.proofs.desk.Desk.others.Goals as goal

pub returns : goal.returns
returns c = rw (← c.self.view_is) (others_is _ _ _ c.self.invariant _ _ _ c.others.ensures.sum)
