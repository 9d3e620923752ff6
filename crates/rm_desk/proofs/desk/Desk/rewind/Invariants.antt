use Rattle.rm_desk.proofs.Names.{rewound}
use Rattle.rm_desk.proofs.desk.Desk.rewind.Given as goal

abbrev pub ghost-of : goal.ghost-of
ghost-of a = rewound a._from.now.0.now a._from.now.1 a._from.now.2 a._from.now.3.0
