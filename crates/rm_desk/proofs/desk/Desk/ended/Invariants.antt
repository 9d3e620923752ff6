use Rattle.rm_desk.proofs.Names.{ended}
use Rattle.rm_desk.proofs.desk.Desk.ended.Given as goal

abbrev pub ghost-of : goal.ghost-of
ghost-of a = ended a._from.now.0.now a._from.now.1 a._from.now.2.0
