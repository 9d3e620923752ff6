use Rattle.rm_recovery.proofs.redo.Redone.apply.Goals as goal

pub returns-then-is_checkpoint-clause-unfit : goal.returns-then-is_checkpoint-clause-unfit
returns-then-is_checkpoint-clause-unfit c = λ pages history are same. c.is_checkpoint.ensures.yes c.if-is_checkpoint.true pages history c.args.logged.now.lsn.0
