use Rattle.std.proofs.Common.{◌≡◌, ◌∷◌, List, reverse, sym, ap, subst, ◌∙◌}
use Rattle.rm_types.specs.declared.numbers.TxnId.{TxnId}
use Rattle.rm_record.specs.declared.records.LogRecord.{LogRecord}
use Rattle.rm_record.specs.declared.records.LogRecord.TheVariants.{Commit}
use Rattle.rm_record.specs.declared.records.Logged.{Logged}
use Rattle.rm_history.specs.Acts.{Change, History, act_at, act_of, acts_of}
use Rattle.rm_history.specs.Pending.{pending_of}
use Rattle.rm_history.specs.Rows.{applied, rows_of_log}
use Rattle.rm_audit.specs.Rows.{HasRows}
use Rattle.rm_audit.proofs.rows.rows_step.Goals as goal

-- a commit makes its transaction's pending changes
committed : (logged : Logged) (txn : TxnId) (before : History) (changes : List Change) → logged.what ≡ Commit txn → changes ≡ pending_of before txn.0
    → rows_of_log (act_of logged ∷ before) ≡ applied (rows_of_log before) changes
committed logged txn before changes what is =
    ap (λ (w : LogRecord). rows_of_log (act_at logged.lsn.0 w ∷ before)) what ∙ sym (ap (applied (rows_of_log before)) is)

pub returns-in_ok-apply : goal.returns-in_ok-apply
returns-in_ok-apply c =
    let changes : reverse c.deref.result.now ≡ pending_of (acts_of c.args.before.now) c.in-Commit.txn.0 = rw c.deref.ensures.value c.in_ok-changes.ensures in
    λ has. subst (HasRows c.apply.new.rows)
    (sym (committed c.args.logged.now c.in-Commit.txn (acts_of c.args.before.now) (reverse c.deref.result.now) c.in-Commit.is changes))
    (c.in_ok-apply.ensures (rows_of_log (acts_of c.args.before.now)) has)
