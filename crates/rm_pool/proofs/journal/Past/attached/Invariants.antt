use Rattle.std.specs.Prelude.{true}
use Rattle.rm_history.specs.Acts.{acts_of}
use Rattle.rm_pool.proofs.journal.Past.attached.Given as goal

abbrev pub ghost-of : goal.ghost-of
ghost-of a = record { history = acts_of a._from.now.now; first = acts_of a._from.now.now; durable = acts_of a._from.now.now; is_known = true }
