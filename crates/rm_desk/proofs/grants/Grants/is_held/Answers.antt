use Rattle.rm_desk.proofs.Entries.{held}
use Rattle.rm_desk.proofs.grants.Grants.is_held.Goals as goal

pub returns : goal.returns
returns c =
    let is = held _ _ c.self.invariant _ _ _ c.blocker.ensures.some c.blocker.ensures.none in
    rw (← c.self.view_is, c.is_some.ensures) (record { held = is.0; inside = is.1 })
