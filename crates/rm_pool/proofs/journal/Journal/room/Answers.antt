use Rattle.rm_pool.proofs.Journals.{next_is_end, known_of}
use Rattle.rm_pool.proofs.journal.Journal.room.Goals as goal

pub returns-clause-next : goal.returns-clause-next
returns-clause-next g c = λ sure. rw (← c.self.view_is) (next_is_end (known_of c.self.invariant.0 c.self.view_is sure))
