use Rattle.rm_pool.proofs.journal.Journal.over.Given as goal

abbrev pub ghost-of : goal.ghost-of
ghost-of g a = a._from.now
