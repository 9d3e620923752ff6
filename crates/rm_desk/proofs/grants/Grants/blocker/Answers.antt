use Rattle.rm_desk.proofs.Entries.{blocker_is}
use Rattle.rm_desk.proofs.grants.Grants.blocker.Goals as goal

pub returns : goal.returns
returns c = rw (← c.self.view_is) (blocker_is _ _ c.self.invariant _ _ _ _ c.blocker.ensures.some c.blocker.ensures.none)
