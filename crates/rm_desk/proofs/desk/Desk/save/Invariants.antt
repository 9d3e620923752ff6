use Rattle.rm_desk.proofs.Names.{saved}
use Rattle.rm_desk.proofs.desk.Desk.save.Given as goal

abbrev pub ghost-of : goal.ghost-of
ghost-of a = saved a._from.now.0.now a._from.now.1 a._from.now.2
