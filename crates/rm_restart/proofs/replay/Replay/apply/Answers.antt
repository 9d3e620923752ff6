use Rattle.std.proofs.Common.{◌∷◌, sym, subst}
use Rattle.rm_record.specs.declared.records.LogRecord.{LogRecord}
use Rattle.rm_history.specs.Acts.{act_at}
use Rattle.rm_restart.specs.Replaying.{Replays}
use Rattle.rm_restart.proofs.replay.Replay.apply.Goals as goal

pub returns-in-Commit-clause-ok : goal.returns-in-Commit-clause-ok
returns-in-Commit-clause-ok c = λ pages history replays.
    subst (λ (what : LogRecord). Replays pages (act_at c.args.logged.now.lsn.0 what ∷ history) c.commit.new.self) (sym c.in-Commit.is)
    (c.commit.ensures.ok pages history c.args.logged.now.lsn replays)
