use Rattle.std.proofs.Common.{◌∙◌}
use Rattle.rm_recovery.proofs.Tables.{insert-is}
use Rattle.rm_recovery.proofs.losers.add.Goals as goal

pub returns-in-Ok : goal.returns-in-Ok
returns-in-Ok c = c.in-Ok.ensures.keys ∙ insert-is c.args.txn.0 c.args.unfinished.now.keys
