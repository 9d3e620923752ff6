use Rattle.rm_locks.proofs.Granted.{granted_compatible}
use Rattle.rm_locks.proofs.Locks.grant.Goals as goal

pub invariant_of-self : goal.invariant_of-self
invariant_of-self c = (
  granted_compatible c.self.inside.entries.entries c.set_mode.new.entries.entries c.args.txn.0 c.args.rid c.args.mode (rw (← c.self.view_is) at c.requires.free)
      c.set_mode.ensures.grants c.self.invariant.0,
  λ other at ready. c.self.invariant.1 other at (c.set_mode.ensures.no_more other at ready),
)
