use Rattle.rm_core.specs.Locks.{released}
use Rattle.rm_desk.proofs.grants.Grants.release.Given as goal

abbrev pub ghost-of : goal.ghost-of
ghost-of a = released a._from.now.0.now a._from.now.1.0
