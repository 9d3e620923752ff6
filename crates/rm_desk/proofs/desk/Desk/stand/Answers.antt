use Rattle.rm_desk.proofs.Names.{refl}
use Rattle.rm_desk.proofs.Standing.{stays_keep}
use Rattle.rm_desk.proofs.desk.Desk.stand.Goals as goal

pub invariant_of-self : goal.invariant_of-self
invariant_of-self c = rw (c.set.ensures, c.of-self-inside.ensures)
    (stays_keep _ _ _ c.self.invariant _ (rw (← c.self.view_is) at c.requires.known) _ (rw (← c.self.view_is) at c.requires.over) (rw (← c.self.view_is) at c.requires.inside) _ (λ id. refl) c.self.invariant.kept)
