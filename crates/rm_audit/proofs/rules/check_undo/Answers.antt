use Rattle.std.proofs.Common.{rules}
use Rattle.rm_history.specs.Acts.{acts_of}
use Rattle.rm_audit.proofs.Firsts.{rid_first, next_first, back_first}
use Rattle.rm_audit.proofs.rules.check_undo.Goals as goal

pub returns-then-ne : goal.returns-then-ne
returns-then-ne c =
    λ format lsn. rid_first format (acts_of c.args.log.now)
    (record { lsn = lsn; txn = c.args.txn.0; undone = c.args.undone.0; next = c.args.next.0; rid = c.args.rid; back = c.args.back.now }) c.in-Some.last
    (search rules) (rw c.in-Some.is at c.in_ok-last.ensures) (search rules) (search rules)

pub returns-then-next-last : goal.returns-then-next-last
returns-then-next-last c =
    λ format lsn. next_first format (acts_of c.args.log.now)
    (record { lsn = lsn; txn = c.args.txn.0; undone = c.args.undone.0; next = c.args.next.0; rid = c.args.rid; back = c.args.back.now }) c.in-Some.last
    (search rules) (rw c.in-Some.is at c.in_ok-last.ensures) (search rules) (search rules) (search rules)

pub returns-then-not-are_same : goal.returns-then-not-are_same
returns-then-not-are_same c =
    λ format lsn. back_first format (acts_of c.args.log.now)
    (record { lsn = lsn; txn = c.args.txn.0; undone = c.args.undone.0; next = c.args.next.0; rid = c.args.rid; back = c.args.back.now }) c.in-Some.last
    (search rules) (rw c.in-Some.is at c.in_ok-last.ensures) (search rules) (search rules) (search rules) (search rules)
