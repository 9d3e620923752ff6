use Rattle.rm_pool.proofs.journal.Past.flushed.Given as goal

abbrev pub ghost-of : goal.ghost-of
ghost-of a = record a._from.now { durable = a._from.now.history }
