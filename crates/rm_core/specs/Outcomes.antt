-- A finished operation and its reply as one value, so that there is none but the pairs that come.
use Rattle.std.specs.Prelude.{ℕ, List}
use Rattle.rm_core.specs.Below.{Rid, Slot, Op, Reply}
use Rattle.rm_events.specs.declared.operations.Finished.{Finished}
use Rattle.rm_types.specs.declared.slots.Slot.TheVariants as slot
use Rattle.rm_events.specs.declared.operations.Op.TheVariants as ops
use Rattle.rm_events.specs.declared.operations.Reply.TheVariants as replies

pub data Outcome : Type 0 where
  began : ℕ → Outcome
  inserted : List ℕ → Rid → Outcome
  no_space : List ℕ → Outcome
  -- a read, and what the slot held
  saw : Rid → Slot → Outcome
  -- an update or delete, by what the slot is to hold: it was made; there was no row; there was no room for the row, and so many bytes were left
  altered : Rid → Slot → Outcome
  missed : Rid → Slot → Outcome
  full : Rid → List ℕ → ℕ → Outcome
  -- savepoints: one was set; it was not there; the transaction is back at it
  saved : ℕ → Outcome
  no_save : ℕ → Outcome
  back_to : ℕ → Outcome
  committed : Outcome
  aborted : Outcome
  -- an operation by which the transaction died, and the lock's holder
  died : Op → ℕ → Outcome
  -- what was not done: outside a transaction, or a begin in one; on no place of the file; by a name that is not bound
  skipped : Op → Outcome
  refused : Op → Outcome
  unbound : Outcome

-- an update or delete, by what the slot is to hold
abbrev pub altering : Rid → Slot → Op
altering rid slot.Vacant = ops.Delete rid
altering rid (slot.Row row) = ops.Update rid row

-- the operation
abbrev pub asked : Outcome → Op
asked (began txn) = ops.Begin
asked (inserted row rid) = ops.Insert row
asked (no_space row) = ops.Insert row
asked (saw rid held) = ops.Read rid
asked (altered rid new) = altering rid new
asked (missed rid new) = altering rid new
asked (full rid row room) = altering rid (slot.Row row)
asked (saved number) = ops.Save number
asked (no_save number) = ops.Back number
asked (back_to number) = ops.Back number
asked committed = ops.Commit
asked aborted = ops.Abort
asked (died op holder) = op
asked (skipped op) = op
asked (refused op) = op
asked unbound = ops.Unbound

-- the reply to a read, by what the slot held; to an update or delete, by what it holds
abbrev pub read_reply : Slot → Reply
read_reply slot.Vacant = replies.NoRow
read_reply (slot.Row row) = replies.Row row

abbrev pub altered_reply : Slot → Reply
altered_reply slot.Vacant = replies.Deleted
altered_reply (slot.Row row) = replies.Updated

-- the reply
abbrev pub reply_of : Outcome → Reply
reply_of (began txn) = replies.Began (record { 0 = txn })
reply_of (inserted row rid) = replies.Inserted rid
reply_of (no_space row) = replies.NoSpace
reply_of (saw rid held) = read_reply held
reply_of (altered rid new) = altered_reply new
reply_of (missed rid new) = replies.NoRow
reply_of (full rid row room) = replies.PageFull room
reply_of (saved number) = replies.Saved number
reply_of (no_save number) = replies.NoSavepoint number
reply_of (back_to number) = replies.BackTo number
reply_of committed = replies.Committed
reply_of aborted = replies.Aborted
reply_of (died op holder) = replies.Died (record { 0 = holder })
reply_of (skipped op) = replies.Skipped
reply_of (refused op) = replies.BadRid
reply_of unbound = replies.Unbound

abbrev pub finished : Outcome → Finished
finished outcome = record { op = asked outcome; reply = reply_of outcome }
