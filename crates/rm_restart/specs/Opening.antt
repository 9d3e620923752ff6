-- What an opening finds in a volume.
use Rattle.std.specs.Prelude.{◌≡◌, ℕ, ◌+◌, ◌<◌, ◌⊎◌, List, [], ◌∷◌, ◌++◌, length}
use Rattle.rm_types.specs.declared.areas.Area.{Area}
use Rattle.rm_types.specs.declared.areas.Area.TheVariants.{Master, Log, Data, Space, Copy}
use Rattle.rm_types.specs.declared.slots.Slot.{Slot}
use Rattle.rm_types.specs.declared.slots.TheConstants.{CAPACITY}
use Rattle.rm_outside.specs.Images.{Image}
use Rattle.rm_model.specs.Pages.{used}
use Rattle.rm_model.specs.Files.{page_at}
use Rattle.rm_master.specs.declared.fields.Fields.{Fields}
use Rattle.rm_master.specs.Fields.{IsFields}
use Rattle.rm_master.specs.Slots.{HasFields, IsDamagedAt as IsMasterDamagedAt}
use Rattle.rm_wal.specs.Tails.{LogValue}
use Rattle.rm_history.specs.Logs.{Batch, gate_of, AreBatches, HasLog, IsDamagedAt as IsLogDamagedAt}
use Rattle.rm_history.specs.Acts.{Act, History, lsn_of}
use Rattle.rm_history.specs.Contents.{page_of}
use Rattle.rm_history.specs.Pending.{pending_of}
use Rattle.rm_history.specs.Transactions.{greatest_txn}
use Rattle.rm_history.specs.Counts.{repeat_count}
use Rattle.rm_history.specs.Batched.{acts_of_batches, IsBelow, AreBelow}
use Rattle.rm_restart.specs.Plain.{IsPlain, ArePlain}

-- The fields and the batches that were read: those of the content, where it is reported.
pub record WasRead (modelled : Type 0) (content : Image) (fields : Fields) (batches : List Batch) : Type 0 where
  pub is_fields : IsFields fields
  pub has_fields : modelled → HasFields (content Master) fields
  pub checkpoint : fields.checkpoint ≡ 0
  pub are_batches : AreBatches batches
  pub has_log : modelled → HasLog (content Log) batches

-- The pages are those of the log, which is plain, nothing is pending in it, and the next id is one more than each.
pub record Opens (modelled : Type 0) (content : Image) (limit : ℕ) (pages : List (List Slot)) (next : ℕ) (log : LogValue) (inserted : ℕ) : Type 0 where
  pub fields : Fields
  pub batches : List Batch
  pub read : WasRead modelled content fields batches
  pub below : AreBelow fields.pages (acts_of_batches batches)
  pub plain : ArePlain (acts_of_batches batches)
  pub settled : (id : ℕ) → pending_of (acts_of_batches batches) id ≡ []
  pub count : length pages ≡ fields.pages
  pub pages_are : (page : ℕ) → page < fields.pages → page_at pages page ≡ page_of (acts_of_batches batches) page
  pub next_is : next ≡ greatest_txn (acts_of_batches batches) + 1
  pub log_is : log ≡ record { batch = gate_of batches; tail = []; limit = limit }
  pub inserted_is : inserted ≡ repeat_count (acts_of_batches batches)

-- The transaction is the least that has a pending record.
pub record NeedsUndoOf (modelled : Type 0) (content : Image) (id : ℕ) : Type 0 where
  pub fields : Fields
  pub batches : List Batch
  pub read : WasRead modelled content fields batches
  pub pends : pending_of (acts_of_batches batches) id ≡ [] → ⊥
  pub least : (other : ℕ) → other < id → pending_of (acts_of_batches batches) other ≡ []

-- with this record after it the history names a page that the file lacks, is not plain, or has a page that does not fit
abbrev pub IsMisfit : ℕ → History → Act → Type 0
IsMisfit pages before act = (IsBelow pages act → ⊥) ⊎ ((IsPlain act → ⊥) ⊎ ((page : ℕ) × (CAPACITY < used (page_of (act ∷ before) page))))

-- no record of the history is one
abbrev pub HasNoMisfit : ℕ → History → Type 0
HasNoMisfit pages [] = Unit {0}
HasNoMisfit pages (act ∷ before) = (IsMisfit pages before act → ⊥) × HasNoMisfit pages before

-- The record with this LSN is the first that names no page of the file, or is of a kind that no log has yet, or with
-- which its page does not fit.
pub record IsMisfitAt (pages : ℕ) (history : History) (at : ℕ) : Type 0 where
  pub more : History
  pub act : Act
  pub before : History
  pub split : history ≡ more ++ act ∷ before
  pub place : at ≡ lsn_of act
  pub misfit : IsMisfit pages before act
  pub first : HasNoMisfit pages before

-- The master names a checkpoint, which no log has yet.
pub record NamesCheckpoint (content : Image) (at : ℕ) : Type 0 where
  pub fields : Fields
  pub read : HasFields (content Master) fields
  pub place : at ≡ fields.checkpoint
  pub some : at ≡ 0 → ⊥

-- It names none, and the log is damaged there first.
pub record IsLogDamage (content : Image) (at : ℕ) : Type 0 where
  pub fields : Fields
  pub read : HasFields (content Master) fields
  pub checkpoint : fields.checkpoint ≡ 0
  pub damage : IsLogDamagedAt (content Log) at

-- It names none, the log is damaged nowhere, and this is the LSN of its first record that does not fit.
pub record IsMisfitOf (content : Image) (at : ℕ) : Type 0 where
  pub fields : Fields
  pub batches : List Batch
  pub read : HasFields (content Master) fields
  pub checkpoint : fields.checkpoint ≡ 0
  pub has_log : HasLog (content Log) batches
  pub misfit : IsMisfitAt fields.pages (acts_of_batches batches) at

-- What an opening of a made volume reports as damaged: of all places that are, the first in this order. The master's current slot;
-- the checkpoint that the master names; the log's bytes; the log's records.
abbrev pub IsDamage : Image → Area → ℕ → Type 0
IsDamage content Master at = IsMasterDamagedAt (content Master) at
IsDamage content Log at = NamesCheckpoint content at ⊎ (IsLogDamage content at ⊎ IsMisfitOf content at)
IsDamage content Data at = ⊥
IsDamage content Space at = ⊥
IsDamage content Copy at = ⊥
