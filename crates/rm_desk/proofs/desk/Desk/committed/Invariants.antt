use Rattle.rm_desk.proofs.Names.{committed}
use Rattle.rm_desk.proofs.desk.Desk.committed.Given as goal

abbrev pub ghost-of : goal.ghost-of
ghost-of a = committed a._from.now.0.now a._from.now.1 a._from.now.2.0
