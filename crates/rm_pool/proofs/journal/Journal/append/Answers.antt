use Rattle.rm_pool.proofs.Journals.{next_is_end, known_of, stands_appended}
use Rattle.rm_pool.proofs.journal.Journal.append.Goals as goal

pub invariant_of-self-2 : goal.invariant_of-self-2
invariant_of-self-2 g c =
    rw (c.logged-self-inside.ensures, c.in_ok-lsn.ensures.ok)
    (stands_appended _ _ c.requires.is_record c.in_ok-lsn.ensures.lsn c.self.invariant.0, c.self.invariant.1)

pub returns-in_err-lsn-clause-next : goal.returns-in_err-lsn-clause-next
returns-in_err-lsn-clause-next g c = λ sure. rw (← c.self.view_is) (next_is_end (known_of c.self.invariant.0 c.self.view_is sure))

pub returns-clause-next : goal.returns-clause-next
returns-clause-next g c = λ sure. rw (← c.self.view_is) (next_is_end (known_of c.self.invariant.0 c.self.view_is sure))
