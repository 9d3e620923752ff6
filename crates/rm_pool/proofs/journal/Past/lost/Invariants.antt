use Rattle.std.specs.Prelude.{false}
use Rattle.rm_pool.proofs.journal.Past.lost.Given as goal

abbrev pub ghost-of : goal.ghost-of
ghost-of a = record a._from.now { is_known = false }
