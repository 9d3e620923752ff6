use Rattle.std.proofs.Common.{◌∙◌}
use Rattle.rm_recovery.proofs.Tables.{remove-is}
use Rattle.rm_recovery.proofs.losers.remove.Goals as goal

pub returns : goal.returns
returns c = c.remove.ensures.keys ∙ remove-is c.args.txn.0 c.args.unfinished.now.keys
