use Rattle.rm_core.proofs.Sizes.{next_above}
use Rattle.rm_desk.proofs.Names.{refl}
use Rattle.rm_desk.proofs.Keeping.{enter_kept}
use Rattle.rm_desk.proofs.Standing.{stays_keep}
use Rattle.rm_desk.proofs.Names.{sym}
use Rattle.rm_desk.proofs.desk.Desk.entered.Goals as goal

pub invariant_of-self : goal.invariant_of-self
invariant_of-self c = rw (c.set.ensures, c.of-self-inside.ensures)
    (stays_keep _ _ _ c.self.invariant _ (rw (← c.self.view_is) at c.requires.known) _ (λ some. sym (rw (← c.self.view_is) at c.requires.open)) tt _ (λ id. refl) (enter_kept _ _ _ _ (next_above _ _ (rw (← c.self.view_is) at c.requires.next)) c.self.invariant.kept))
