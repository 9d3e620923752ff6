-- What of a history may still be undone.
use Rattle.std.specs.Prelude.{ℕ, ◌<◌, ◌==◌, if◌then◌else◌, List, [], ◌∷◌}
use Rattle.rm_history.specs.Acts.{Change, History, changes, undoes, enters, commits, ends, marks}

-- all but the newest
abbrev pub older : List Change → List Change
older [] = []
older (newest ∷ before) = before

-- A transaction's pending changes, the newest first: those that are not undone, while it is not finished.
abbrev pub pending_of : History → ℕ → List Change
pending_of [] txn = []
pending_of (changes c ∷ before) txn = if c.txn == txn then c ∷ pending_of before txn else pending_of before txn
pending_of (undoes u ∷ before) txn = if u.txn == txn then older (pending_of before txn) else pending_of before txn
pending_of (enters e ∷ before) txn = pending_of before txn
pending_of (commits f ∷ before) txn = if f.txn == txn then [] else pending_of before txn
pending_of (ends f ∷ before) txn = if f.txn == txn then [] else pending_of before txn
pending_of (marks m ∷ before) txn = pending_of before txn

-- the changes but the newest of a transaction; the changes but those of a transaction
abbrev pub without_newest : List Change → ℕ → List Change
without_newest [] txn = []
without_newest (newest ∷ before) txn = if newest.txn == txn then before else newest ∷ without_newest before txn

abbrev pub without : List Change → ℕ → List Change
without [] txn = []
without (newest ∷ before) txn = if newest.txn == txn then without before txn else newest ∷ without before txn

-- the changes of a transaction among these
abbrev pub of_txn : ℕ → List Change → List Change
of_txn txn [] = []
of_txn txn (newest ∷ before) = if newest.txn == txn then newest ∷ of_txn txn before else of_txn txn before

-- the pending changes of all transactions, the newest first
abbrev pub all_pending : History → List Change
all_pending [] = []
all_pending (changes c ∷ before) = c ∷ all_pending before
all_pending (undoes u ∷ before) = without_newest (all_pending before) u.txn
all_pending (enters e ∷ before) = all_pending before
all_pending (commits f ∷ before) = without (all_pending before) f.txn
all_pending (ends f ∷ before) = without (all_pending before) f.txn
all_pending (marks m ∷ before) = all_pending before

-- the LSN of the newest, 0 for none
abbrev pub last_of : List Change → ℕ
last_of [] = 0
last_of (newest ∷ before) = newest.lsn

-- the LSNs fall
abbrev pub AreFalling : List Change → Type 0
AreFalling [] = Unit {0}
AreFalling (newest ∷ before) = (last_of before < newest.lsn) × AreFalling before
