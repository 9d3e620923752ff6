-- What a restart finds in a volume, and what it opens.
use Rattle.std.specs.Prelude.{◌≡◌, ℕ, ◌+◌, ◌≤◌, ◌⊎◌, List, [], length, IsTrue}
use Rattle.rm_types.specs.declared.areas.Area.{Area}
use Rattle.rm_types.specs.declared.areas.Area.TheVariants.{Master, Log, Data, Space, Copy}
use Rattle.rm_types.specs.declared.formats.Format.TheVariants.{One}
use Rattle.rm_outside.specs.declared.volume.Volume.{Ghosts}
use Rattle.rm_outside.specs.Calls.{IsAllSynced, OnlyReads}
use Rattle.rm_outside.specs.Images.{Image}
use Rattle.rm_master.specs.declared.fields.Fields.{Fields}
use Rattle.rm_master.specs.Fields.{IsFields}
use Rattle.rm_master.specs.Slots.{HasFields, IsDamagedAt as IsMasterDamagedAt}
use Rattle.rm_history.specs.Acts.{History, acts_of}
use Rattle.rm_history.specs.Batched.{acts_of_batches}
use Rattle.rm_history.specs.Counts.{repeat_count}
use Rattle.rm_history.specs.Legal.{IsLegal}
use Rattle.rm_history.specs.Logs.{Batch, AreBatches, HasLog, IsDamagedAt as IsLogDamagedAt}
use Rattle.rm_history.specs.Pending.{all_pending, pending_of}
use Rattle.rm_history.specs.Sizes.{end_of}
use Rattle.rm_history.specs.Transactions.{greatest_txn}
use Rattle.rm_history.specs.UndoBytes.{undo_bytes}
use Rattle.rm_history.specs.Undoing.{Restarted}
use Rattle.rm_wal.specs.Attaching.{Attaches}
use Rattle.rm_pool.specs.Journals.{JournalValue, Stands}
use Rattle.rm_pool.specs.Stores.{StoreValue}
use Rattle.rm_recovery.specs.Redone.{HasNoMisfit, IsMisfitAt, Redoes}
use Rattle.rm_recovery.specs.Restarting.{BeginsRestart, IsUndoDamageAt}
use Rattle.rm_recovery.specs.declared.opening.Found.{Found}
use Rattle.rm_recovery.specs.declared.restarting.Report.{Report}

-- The fields of a master that names no checkpoint: those of the content, if it is modelled.
pub record HasRead (modelled : Type 0) (content : Image) (fields : Fields) : Type 0 where
  pub is_fields : IsFields fields
  pub has_fields : modelled → HasFields (content Master) fields
  pub checkpoint : fields.checkpoint ≡ 0

-- They and the batches that were read: those of the content, if it is modelled.
pub record WasRead (modelled : Type 0) (content : Image) (fields : Fields) (batches : List Batch) : Type 0 where
  pub master : HasRead modelled content fields
  pub are_batches : AreBatches batches
  pub has_log : modelled → HasLog (content Log) batches

-- what was found before anything is undone
pub record Finds (modelled : Type 0) (content : Image) (limit : ℕ) (found : Found) : Type 0 where
  pub fields : Fields
  pub master : HasRead modelled content fields
  pub attached : Attaches modelled (content Log) limit found.log found.records.items
  pub redone : Redoes fields.pages (acts_of found.records.items) found.redone

-- One history is another restarted: all that was pending is undone, and nothing is. The ids are as they were.
pub record IsSettled (modelled : Type 0) (before now : History) : Type 0 where
  pub restarted : modelled → Restarted One before now
  pub room : modelled → IsLegal One before → end_of now ≤ end_of before + undo_bytes One before
  pub none : (txn : ℕ) → pending_of now txn ≡ []
  pub greatest_is : greatest_txn now ≡ greatest_txn before

-- The log, restarted and durable.
pub record IsSettledLog {V : Type 0} (modelled : Type 0) (batches : List Batch) (limit : ℕ) (it : JournalValue V) : Type 0 where
  pub first_is : it.first ≡ acts_of_batches batches
  pub is_known : IsTrue it.is_known
  pub limit_is : it.log.limit ≡ limit
  pub flushed : it.log.tail ≡ []
  pub durable_is : it.durable ≡ it.history
  pub settled : IsSettled modelled (acts_of_batches batches) it.history

-- What a restart did with this history: it repeated all of its changes on empty pages, and undid what was pending.
abbrev pub report_of : History → Report
report_of history =
    record { redo = 0; records = repeat_count history; applied = repeat_count history; undone = length (all_pending history) }

-- A volume with this content is opened: the store has its pages and its log, restarted.
pub record Opens {V : Type 0} (modelled : Type 0) (content : Image) (limit : ℕ) (store : StoreValue V) (next : ℕ) (report : Report) : Type 0 where
  pub fields : Fields
  pub batches : List Batch
  pub read : WasRead modelled content fields batches
  pub fit : HasNoMisfit fields.pages (acts_of_batches batches)
  pub log : IsSettledLog modelled batches limit store.journal
  pub size_is : store.frames.size ≡ fields.pages
  pub next_is : next ≡ greatest_txn (acts_of_batches batches) + 1
  pub report_is : report ≡ report_of (acts_of_batches batches)

-- ---- a volume that was not opened

-- what was logged until a restart stopped begins what a restart of the log that was read logs
pub record StopsWith (modelled : Type 0) (content : Image) (first history : History) : Type 0 where
  pub fields : Fields
  pub batches : List Batch
  pub read : WasRead modelled content fields batches
  pub first_is : first ≡ acts_of_batches batches
  pub begins : modelled → BeginsRestart One first history

-- The volume stands to a journal that began with this one, which was synced and read, and stopped so.
abbrev pub StopsFrom : {V : Type 0} → Ghosts V → V → V → JournalValue V → Type 0
StopsFrom g opened new it = (it.volume ≡ new) × Stands g it × (it.opened ≡ opened) × StopsWith (g.models_content new) (g.content opened) it.first it.history

-- Nothing was written, or the undo was begun.
abbrev pub Stops : {V : Type 0} → Ghosts V → V → V → Type 0
Stops g old new = OnlyReads g Log old new
    ⊎ ((opened : _) × OnlyReads g Log old opened × IsAllSynced g opened × ((it : JournalValue _) × StopsFrom g opened new it))

-- ---- damage

-- The master names a checkpoint, which no log has yet.
pub record NamesCheckpoint (content : Image) (at : ℕ) : Type 0 where
  pub fields : Fields
  pub read : HasFields (content Master) fields
  pub place : at ≡ fields.checkpoint
  pub some : at ≡ 0 → ⊥

-- It names none, and the log is damaged there first.
pub record IsLogDamage (content : Image) (at : ℕ) : Type 0 where
  pub fields : Fields
  pub read : HasFields (content Master) fields
  pub checkpoint : fields.checkpoint ≡ 0
  pub damage : IsLogDamagedAt (content Log) at

-- Of the records of a file of so many pages this is the first that is a misfit, or none is one, and restart's undo stops there.
abbrev pub IsDamageOf : ℕ → History → ℕ → Type 0
IsDamageOf pages history at = IsMisfitAt pages history at ⊎ (HasNoMisfit pages history × IsUndoDamageAt One pages history at)

-- It names none, the log's bytes are damaged nowhere, and its records are there.
pub record IsRecordDamage (content : Image) (at : ℕ) : Type 0 where
  pub fields : Fields
  pub batches : List Batch
  pub read : HasFields (content Master) fields
  pub checkpoint : fields.checkpoint ≡ 0
  pub has_log : HasLog (content Log) batches
  pub damage : IsDamageOf fields.pages (acts_of_batches batches) at

-- What a restart of a made volume reports as damaged: of all places that are, the first in this order. The master's current slot;
-- the checkpoint that the master names; the log's bytes; the log's records.
abbrev pub IsDamage : Image → Area → ℕ → Type 0
IsDamage content Master at = IsMasterDamagedAt (content Master) at
IsDamage content Log at = NamesCheckpoint content at ⊎ (IsLogDamage content at ⊎ IsRecordDamage content at)
IsDamage content Data at = ⊥
IsDamage content Space at = ⊥
IsDamage content Copy at = ⊥
