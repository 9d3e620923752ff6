-- Small logs, for the examples.
use Rattle.std.specs.Prelude.{ℕ, [], ◌∷◌, replicate}
use Rattle.rm_types.specs.declared.numbers.Rid.{Rid}
use Rattle.rm_types.specs.declared.slots.Slot.{Slot}
use Rattle.rm_types.specs.declared.slots.Slot.TheVariants.{Vacant, Row}
use Rattle.rm_history.specs.Acts.{Act, History, changes, undoes, enters, commits, ends}

-- ---- records

-- a slot that holds a row of this many bytes
abbrev pub row : ℕ → Slot
row len = Row (replicate len 97)

-- the row id of a page and a slot
abbrev pub at : (page slot : ℕ) → Rid
at page slot = record { page = page; slot = slot }

-- a row inserted: where its record is, whose it is, which pending record is below it, and its row id, need and length
abbrev pub insert : (lsn txn under : ℕ) → Rid → (need len : ℕ) → Act
insert lsn txn under rid need len = changes (record { lsn = lsn; txn = txn; under = under; rid = rid; need = need; before = Vacant; after = row len })

-- a row deleted
abbrev pub delete : (lsn txn under : ℕ) → Rid → (need len : ℕ) → Act
delete lsn txn under rid need len = changes (record { lsn = lsn; txn = txn; under = under; rid = rid; need = need; before = row len; after = Vacant })

-- a row put in place of another
abbrev pub update : (lsn txn under : ℕ) → Rid → (need old new : ℕ) → Act
update lsn txn under rid need old new = changes (record { lsn = lsn; txn = txn; under = under; rid = rid; need = need; before = row old; after = row new })

-- an insert undone: the record that it undoes, and the pending one below that
abbrev pub undo : (lsn txn undone next : ℕ) → Rid → Act
undo lsn txn undone next rid = undoes (record { lsn = lsn; txn = txn; undone = undone; next = next; rid = rid; back = Vacant })

-- a page's category entered
abbrev pub enter : (lsn txn page category : ℕ) → Act
enter lsn txn page category = enters (record { lsn = lsn; txn = txn; page = page; category = category })

-- a commit
abbrev pub commit : (lsn txn : ℕ) → Act
commit lsn txn = commits (record { lsn = lsn; txn = txn })

-- the end of a rollback
abbrev pub end : (lsn txn : ℕ) → Act
end lsn txn = ends (record { lsn = lsn; txn = txn })

-- ---- logs of what a page has room for

-- transaction 1 commits a row of 4,000 bytes, and 2 deletes it
abbrev pub deleted : History
deleted = enter 8071 2 0 0 ∷ delete 4048 2 0 (at 0 0) 0 4000 ∷ commit 4038 1 ∷ enter 4028 1 0 3 ∷ insert 5 1 0 (at 0 0) 0 4000 ∷ []

-- the same of a row of 4,072 bytes
abbrev pub tight : History
tight = delete 4120 2 0 (at 0 0) 0 4072 ∷ commit 4110 1 ∷ enter 4100 1 0 3 ∷ insert 5 1 0 (at 0 0) 0 4072 ∷ []

-- transaction 1 commits rows of 100 and 3,918 bytes, and 2 inserts 50 and then deletes the 100
abbrev pub inserted_and_deleted : History
inserted_and_deleted =
    delete 4162 2 4089 (at 0 0) 0 100 ∷ insert 4089 2 0 (at 0 2) 0 50
    ∷ commit 4079 1 ∷ enter 4069 1 0 3 ∷ insert 128 1 5 (at 0 1) 0 3918 ∷ insert 5 1 0 (at 0 0) 0 100 ∷ []

-- transaction 1 commits a row of 100 bytes, and 2 deletes it and then inserts 50
abbrev pub deleted_and_inserted : History
deleted_and_inserted = insert 261 2 138 (at 0 1) 100 50 ∷ delete 138 2 0 (at 0 0) 0 100 ∷ commit 128 1 ∷ insert 5 1 0 (at 0 0) 0 100 ∷ []

-- transaction 1 commits a row of 100 bytes, and 2 shrinks it to 40 and inserts 30 on the next page
abbrev pub shrunk : History
shrunk = insert 303 2 138 (at 1 0) 0 30 ∷ update 138 2 0 (at 0 0) 0 100 40 ∷ commit 128 1 ∷ insert 5 1 0 (at 0 0) 0 100 ∷ []

-- transaction 1 has rows of 100 and 3,900 bytes pending
abbrev pub pending : History
pending = insert 128 1 5 (at 0 1) 0 3900 ∷ insert 5 1 0 (at 0 0) 0 100 ∷ []

-- transaction 1 commits two rows of 2,000 bytes, and 2 deletes one
abbrev pub one_deleted : History
one_deleted = delete 4071 2 0 (at 0 0) 0 2000 ∷ commit 4061 1 ∷ enter 4051 1 0 3 ∷ insert 2028 1 5 (at 0 1) 0 2000 ∷ insert 5 1 0 (at 0 0) 0 2000 ∷ []

-- transaction 1 commits rows of 100 and 200 bytes, and 3 deletes the 200 before 2 deletes the 100
abbrev pub each_deleted : History
each_deleted = delete 584 2 0 (at 0 0) 0 100 ∷ delete 361 3 0 (at 0 1) 0 200 ∷ commit 351 1 ∷ insert 128 1 5 (at 0 1) 0 200 ∷ insert 5 1 0 (at 0 0) 0 100 ∷ []

-- ---- logs of what restart undoes

-- transaction 2 inserts a row and undoes that
abbrev pub undone : History
undone = undo 29 2 5 0 (at 0 0) ∷ insert 5 2 0 (at 0 0) 0 1 ∷ []

-- and it ends
abbrev pub ended : History
ended = end 57 2 ∷ undone

-- transactions 3, 2 and 1 insert a row each in that order, and 2 commits before 1 inserts
abbrev pub the_last_first : History
the_last_first = insert 63 1 0 (at 0 2) 0 1 ∷ commit 53 2 ∷ insert 29 2 0 (at 0 1) 0 1 ∷ insert 5 3 0 (at 0 0) 0 1 ∷ []

-- transactions 1, 2 and 3 insert a row each, and 1 another
abbrev pub in_turn : History
in_turn = insert 77 1 5 (at 0 3) 0 1 ∷ insert 53 3 0 (at 0 2) 0 1 ∷ insert 29 2 0 (at 0 1) 0 1 ∷ insert 5 1 0 (at 0 0) 0 1 ∷ []

-- transaction 1 has 500 bytes pending, and 2 commits 516 and the category that the page has with both
abbrev pub falls_behind : History
falls_behind = commit 1077 2 ∷ enter 1067 2 0 1 ∷ insert 528 2 0 (at 0 1) 0 516 ∷ insert 5 1 0 (at 0 0) 0 500 ∷ []

-- transaction 1 commits 1,000 bytes, 2 has 20 pending and the category that the page has with both, and 3 commits 100 more
abbrev pub stays_behind : History
stays_behind =
    commit 1214 3 ∷ insert 1091 3 0 (at 0 2) 0 100 ∷ enter 1081 2 0 1 ∷ insert 1038 2 0 (at 0 1) 0 20 ∷ commit 1028 1 ∷ insert 5 1 0
    (at 0 0) 0 1000 ∷ []

-- transaction 1 has 500 and 600 bytes pending, and the category that the page has with both
abbrev pub two_pending : History
two_pending = enter 1151 1 0 1 ∷ insert 528 1 5 (at 0 1) 0 600 ∷ insert 5 1 0 (at 0 0) 0 500 ∷ []

-- transaction 1 has two rows of 1,100 bytes pending, and the category that the page has with both
abbrev pub two_long_pending : History
two_long_pending = enter 2251 1 0 2 ∷ insert 1128 1 5 (at 0 1) 0 1100 ∷ insert 5 1 0 (at 0 0) 0 1100 ∷ []

-- transaction 1 has 1,100 and 100 bytes pending, and no category yet
abbrev pub not_entered : History
not_entered = insert 1128 1 5 (at 0 1) 0 100 ∷ insert 5 1 0 (at 0 0) 0 1100 ∷ []
