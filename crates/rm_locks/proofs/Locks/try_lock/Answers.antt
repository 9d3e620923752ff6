use Rattle.rm_locks.proofs.Locks.try_lock.Goals as goal

pub grant-requires-clause-free : goal.grant-requires-clause-free
grant-requires-clause-free c = λ other apart blocks. c.in_default.ensures.none other apart (rw (c.in_ok-ready.ensures.same other c.args.rid) at blocks)
