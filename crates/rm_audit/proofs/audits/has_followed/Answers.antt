use Rattle.std.proofs.lemmas.Result.{IfOk-weaker}
use Rattle.rm_history.specs.Acts.{act_of, acts_of}
use Rattle.rm_audit.proofs.Judging.{followed_with, followed_without, no_commit}
use Rattle.rm_audit.proofs.audits.has_followed.Goals as goal

pub returns-in-Commit : goal.returns-in-Commit
returns-in-Commit c =
    λ is. IfOk-weaker c.each_follows.result _ _
    (λ found each. followed_with c.args.format c.args.last.now c.in-Commit.txn (acts_of c.args.before.now)
    (acts_of c.args.log.now) found c.in-Commit.is is each) c.each_follows.ensures

pub returns-in_default : goal.returns-in_default
returns-in_default c =
    λ is. followed_without c.args.format (act_of c.args.last.now) (acts_of c.args.before.now) (acts_of c.args.log.now) is
    (no_commit c.args.last.now.lsn.0 c.args.last.now.what c.in_default.not-Commit)
