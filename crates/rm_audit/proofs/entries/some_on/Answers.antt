use Rattle.std.proofs.Common.{List, take, reverse, sym, subst, rules}
use Rattle.rm_history.specs.Acts.{Change}
use Rattle.rm_audit.specs.Parts.{IsSomeOn}
use Rattle.rm_audit.proofs.Newest.{reverse_more}
use Rattle.rm_audit.proofs.entries.some_on.Goals as goal

pub loop-change-preserved : goal.loop-change-preserved
loop-change-preserved c =
    subst (λ (l : List Change). IsSomeOn c.args.page l c.some_on_step-found.result)
    (sym (reverse_more c.args.pending.now c.loop-change.change-index c.change-item.result (search rules) c.change-item.is))
    (c.some_on_step-found.ensures (reverse (take c.loop-change.change-index c.args.pending.now)) c.loop-change.invariant)
