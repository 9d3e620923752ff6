-- What becomes of one transaction.
use Rattle.std.specs.Prelude.{ℕ, ◌+◌, ◌-◌, true, false, [], ◌∷◌}
use Rattle.rm_types.specs.declared.numbers.Lsn.{Lsn}
use Rattle.rm_types.specs.declared.numbers.TxnId.{TxnId}
use Rattle.rm_txns.specs.declared.transaction.Txn.{Txn}
use Rattle.rm_txns.specs.declared.transaction.TheConstants.{OWED}
use Rattle.rm_txns.specs.Savepoints.{without, back_to}

-- at its begin
abbrev pub begun : TxnId → Txn
begun id = record { id = id; undo = record { 0 = 0 }; saves = []; owed = OWED; pushed = false; committed = false }

-- after a new last pending record, whose before row has this many bytes
abbrev pub after_push : Lsn → ℕ → Txn → Txn
after_push lsn before txn = record txn { undo = lsn; owed = txn.owed + (OWED + before); pushed = true }

-- after its last pending record is undone: the one below it stands at `next`
abbrev pub after_pop : Lsn → ℕ → Txn → Txn
after_pop next before txn = record txn { undo = next; owed = txn.owed - (OWED + before) }

-- after a savepoint is set at its last pending record: an older one of that number is dropped
abbrev pub after_save : ℕ → Txn → Txn
after_save number txn = record txn { saves = record { number = number; at = txn.undo } ∷ without number txn.saves }

-- after it is back at a savepoint: the later ones are dropped
abbrev pub after_back : ℕ → Txn → Txn
after_back number txn = record txn { saves = back_to number txn.saves }

-- after its commit record: nothing is pending, and nothing is owed
abbrev pub after_commit : Txn → Txn
after_commit txn = record txn { undo = record { 0 = 0 }; owed = 0; committed = true }
