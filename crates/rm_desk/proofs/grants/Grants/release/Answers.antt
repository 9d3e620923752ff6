use Rattle.rm_desk.proofs.Entries.{let_go}
use Rattle.rm_desk.proofs.grants.Grants.release.Goals as goal

pub invariant_of-self : goal.invariant_of-self
invariant_of-self c = rw c.of-self-inside.ensures (let_go _ _ _ c.self.invariant _ c.release_all.ensures)
