use Rattle.std.proofs.Common.{List, sym, ap, ◌∙◌}
use Rattle.rm_history.specs.Acts.{Change, acts_of}
use Rattle.rm_history.specs.Needs.{on_page, need_for}
use Rattle.rm_history.specs.Pending.{of_txn}
use Rattle.rm_history.proofs.AllPending.{pending_of_all}
use Rattle.rm_audit.proofs.needs.needs_on.Goals as goal

pub returns : goal.returns
returns c = λ txn.
    c.in_ok-needs_among.ensures txn
    ∙ ap (λ (l : List Change). need_for (on_page c.args.page (of_txn txn l))) c.in_ok-pending.ensures
    ∙ ap (λ (l : List Change). need_for (on_page c.args.page l)) (sym (pending_of_all (acts_of c.args.log.now) txn))
