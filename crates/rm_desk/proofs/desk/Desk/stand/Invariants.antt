use Rattle.rm_desk.proofs.Names.{goes, stage_with, slice_index_or, Unbound}
use Rattle.rm_desk.proofs.desk.Desk.stand.Given as goal

abbrev pub ghost-of : goal.ghost-of
ghost-of a = goes a._from.now.0.now a._from.now.2 (stage_with (slice_index_or a._from.now.1.now a._from.now.2 Unbound) a._from.now.3)
