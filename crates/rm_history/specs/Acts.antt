-- What each record of a log does, and a history: what the records of a log do, the newest first.
use Rattle.std.specs.Prelude.{ℕ, List, [], ◌∷◌}
use Rattle.rm_types.specs.declared.numbers.Lsn.{Lsn}
use Rattle.rm_types.specs.declared.numbers.Rid.{Rid}
use Rattle.rm_types.specs.declared.numbers.TxnId.{TxnId}
use Rattle.rm_types.specs.declared.places.Place.{Place}
use Rattle.rm_types.specs.declared.slots.Slot.{Slot}
use Rattle.rm_types.specs.declared.slots.Slot.TheVariants.{Vacant, Row}
use Rattle.rm_record.specs.declared.records.LogRecord.{LogRecord}
use Rattle.rm_record.specs.declared.records.LogRecord.TheVariants.{Insert, Delete, Update, Compensate, Inventory, Commit, End, Checkpoint}
use Rattle.rm_record.specs.declared.records.Logged.{Logged}

-- a change of a slot, forward: what it held and what it holds
pub record Change : Type 0 where
  pub lsn : ℕ
  pub txn : ℕ
  pub under : ℕ
  pub rid : Rid
  pub need : ℕ
  pub before : Slot
  pub after : Slot

-- a change undone: the slot holds what it held
pub record Undo : Type 0 where
  pub lsn : ℕ
  pub txn : ℕ
  pub undone : ℕ
  pub next : ℕ
  pub rid : Rid
  pub back : Slot

-- a page's category entered in the inventory
pub record Entry : Type 0 where
  pub lsn : ℕ
  pub txn : ℕ
  pub page : ℕ
  pub category : ℕ

-- a checkpoint's lists
pub record Listing : Type 0 where
  pub lsn : ℕ
  pub next : ℕ
  pub losers : List Place
  pub pages : List Place
  pub blocks : List Place

-- the end of a transaction: its commit, or the end of its rollback
pub record Finish : Type 0 where
  pub lsn : ℕ
  pub txn : ℕ

-- what a record of no transaction does
pub data Mark : Type 0 where
  lists : Listing → Mark

pub data Act : Type 0 where
  changes : Change → Act
  undoes : Undo → Act
  enters : Entry → Act
  commits : Finish → Act
  ends : Finish → Act
  marks : Mark → Act

-- what the records of a log do, the newest first
abbrev pub History : Type 0
History = List Act

-- a change of a slot, by a record with this LSN
abbrev pub change_at : ℕ → TxnId → Lsn → Rid → ℕ → (before after : Slot) → Act
change_at lsn txn under rid need before after =
    changes (record { lsn = lsn; txn = txn.0; under = under.0; rid = rid; need = need; before = before; after = after })

-- what a record with this LSN does
abbrev pub act_at : ℕ → LogRecord → Act
act_at lsn (Insert txn under rid need row) = change_at lsn txn under rid need Vacant (Row row)
act_at lsn (Delete txn under rid need old) = change_at lsn txn under rid need (Row old) Vacant
act_at lsn (Update txn under rid need old new) = change_at lsn txn under rid need (Row old) (Row new)
act_at lsn (Compensate txn undone next rid back) = undoes (record { lsn = lsn; txn = txn.0; undone = undone.0; next = next.0; rid = rid; back = back })
act_at lsn (Inventory txn page category) = enters (record { lsn = lsn; txn = txn.0; page = page; category = category })
act_at lsn (Commit txn) = commits (record { lsn = lsn; txn = txn.0 })
act_at lsn (End txn) = ends (record { lsn = lsn; txn = txn.0 })
act_at lsn (Checkpoint next losers pages blocks) = marks (lists (record { lsn = lsn; next = next; losers = losers; pages = pages; blocks = blocks }))

abbrev pub act_of : Logged → Act
act_of logged = act_at logged.lsn.0 logged.what

-- the history of a log, whose oldest record comes first
abbrev pub acts_onto : History → List Logged → History
acts_onto history [] = history
acts_onto history (oldest ∷ log) = acts_onto (act_of oldest ∷ history) log

abbrev pub acts_of : List Logged → History
acts_of log = acts_onto [] log

-- the offset of a record, of no transaction and of any
abbrev pub mark_lsn : Mark → ℕ
mark_lsn (lists l) = l.lsn

abbrev pub lsn_of : Act → ℕ
lsn_of (changes c) = c.lsn
lsn_of (undoes u) = u.lsn
lsn_of (enters e) = e.lsn
lsn_of (commits f) = f.lsn
lsn_of (ends f) = f.lsn
lsn_of (marks m) = mark_lsn m

-- the offset of the newest record, 0 for none
abbrev pub newest_lsn : History → ℕ
newest_lsn [] = 0
newest_lsn (newest ∷ before) = lsn_of newest
