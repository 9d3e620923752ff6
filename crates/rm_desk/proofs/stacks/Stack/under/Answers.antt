use Rattle.rm_desk.proofs.Names.{◌∙◌, ap, PendingChange, arith}
use Rattle.rm_desk.proofs.Piles.{under_in_items}
use Rattle.rm_desk.proofs.stacks.Stack.under.Goals as goal

pub returns : goal.returns
returns c =
    rw (← c.self.view_is) (rw (c.len-len.ensures, c.self.inside.changes.ok.0) at (ap (λ (p : PendingChange). p.lsn.0) c.index.ensures) ∙ under_in_items c.self.inside.changes.items c.index.result.now (omega (arith, c.len-len.ensures, c.self.inside.changes.ok.0, c.if-len-lt2.false)))
