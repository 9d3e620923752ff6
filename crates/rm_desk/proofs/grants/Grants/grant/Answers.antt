use Rattle.rm_desk.proofs.Entries.{free_in, granted, no_blocker}
use Rattle.rm_desk.proofs.grants.Grants.grant.Goals as goal

pub grant-requires-clause-free : goal.grant-requires-clause-free
grant-requires-clause-free c = free_in _ _ c.self.invariant _ _ _ (no_blocker _ _ _ _ (rw (← c.self.view_is) at c.requires.free))

pub invariant_of-self : goal.invariant_of-self
invariant_of-self c = rw c.of-self-inside.ensures (granted _ _ _ c.self.invariant _ _ _ c.requires.inside c.grant.ensures)
