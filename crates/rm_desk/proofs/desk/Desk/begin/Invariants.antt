use Rattle.rm_desk.proofs.Names.{begun}
use Rattle.rm_desk.proofs.desk.Desk.begin.Given as goal

abbrev pub ghost-of : goal.ghost-of
ghost-of a = begun a._from.now.0.now a._from.now.1
