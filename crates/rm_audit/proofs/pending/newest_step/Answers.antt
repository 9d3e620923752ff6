use Rattle.std.proofs.Common.{sym, ap, ◌∙◌}
use Rattle.rm_history.specs.Acts.{Change}
use Rattle.rm_audit.proofs.Newest.{newest_of_it, newest_of_other}
use Rattle.rm_audit.proofs.pending.newest_step.Goals as goal

pub returns-then-change-txn : goal.returns-then-change-txn
returns-then-change-txn c =
    λ prefix count is. newest_of_it c.args.txn.0 prefix c.args.change.now c.args.index count
    (sym (ap (λ (x : Change). x.txn) c.change.view_is) ∙ c.if-change-txn.true)

pub returns-else-change-txn : goal.returns-else-change-txn
returns-else-change-txn c =
    λ prefix count is. newest_of_other c.args.txn.0 prefix c.args.change.now c.args.found
    (λ same. c.if-change-txn.false (ap (λ (x : Change). x.txn) c.change.view_is ∙ same)) is
