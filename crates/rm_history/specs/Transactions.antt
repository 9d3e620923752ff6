-- What a history says of transactions.
use Rattle.std.specs.Prelude.{◌≡◌, ℕ, [], ◌∷◌, max, ◌⊎◌}
use Rattle.rm_types.specs.declared.numbers.Rid.{Rid}
use Rattle.rm_history.specs.Acts.{History, changes, undoes, enters, commits, ends, marks}

-- the transaction has its commit or end record
abbrev pub IsFinished : History → ℕ → Type 0
IsFinished [] txn = ⊥
IsFinished (changes c ∷ before) txn = IsFinished before txn
IsFinished (undoes u ∷ before) txn = IsFinished before txn
IsFinished (enters e ∷ before) txn = IsFinished before txn
IsFinished (commits f ∷ before) txn = (f.txn ≡ txn) ⊎ IsFinished before txn
IsFinished (ends f ∷ before) txn = (f.txn ≡ txn) ⊎ IsFinished before txn
IsFinished (marks m ∷ before) txn = IsFinished before txn

-- the transaction has a record
abbrev pub HasRecord : History → ℕ → Type 0
HasRecord [] txn = ⊥
HasRecord (changes c ∷ before) txn = (c.txn ≡ txn) ⊎ HasRecord before txn
HasRecord (undoes u ∷ before) txn = (u.txn ≡ txn) ⊎ HasRecord before txn
HasRecord (enters e ∷ before) txn = (e.txn ≡ txn) ⊎ HasRecord before txn
HasRecord (commits f ∷ before) txn = (f.txn ≡ txn) ⊎ HasRecord before txn
HasRecord (ends f ∷ before) txn = (f.txn ≡ txn) ⊎ HasRecord before txn
HasRecord (marks m ∷ before) txn = HasRecord before txn

-- the transaction has a change record on the row id, pending or not
abbrev pub HasChange : History → ℕ → Rid → Type 0
HasChange [] txn rid = ⊥
HasChange (changes c ∷ before) txn rid = ((c.txn ≡ txn) × (c.rid ≡ rid)) ⊎ HasChange before txn rid
HasChange (undoes u ∷ before) txn rid = HasChange before txn rid
HasChange (enters e ∷ before) txn rid = HasChange before txn rid
HasChange (commits f ∷ before) txn rid = HasChange before txn rid
HasChange (ends f ∷ before) txn rid = HasChange before txn rid
HasChange (marks m ∷ before) txn rid = HasChange before txn rid

-- the greatest id of a transaction that has a record, 0 for none
abbrev pub greatest_txn : History → ℕ
greatest_txn [] = 0
greatest_txn (changes c ∷ before) = max c.txn (greatest_txn before)
greatest_txn (undoes u ∷ before) = max u.txn (greatest_txn before)
greatest_txn (enters e ∷ before) = max e.txn (greatest_txn before)
greatest_txn (commits f ∷ before) = max f.txn (greatest_txn before)
greatest_txn (ends f ∷ before) = max f.txn (greatest_txn before)
greatest_txn (marks m ∷ before) = greatest_txn before
