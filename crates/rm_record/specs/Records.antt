-- What log records are, and the one spelling of each.
use Rattle.std.specs.Prelude.{ℕ, ◌≤◌, ◌<◌, ◌-◌, ◌^◌, List, [], ◌∷◌, ◌++◌, length, slice_index}
use Rattle.std.specs.List.{flat_map}
use Rattle.std.specs.Int.{w16, w32, w64, to_be_bytes}
use Rattle.rm_types.specs.declared.numbers.TxnId.{TxnId}
use Rattle.rm_types.specs.declared.numbers.Lsn.{Lsn}
use Rattle.rm_types.specs.declared.numbers.Rid.{Rid}
use Rattle.rm_types.specs.declared.numbers.TheConstants.{MAX_PAGES, MAX_SLOT, MAX_BLOCKS}
use Rattle.rm_types.specs.declared.places.Place.{Place}
use Rattle.rm_types.specs.declared.rows.TheConstants.{MAX_ROW}
use Rattle.rm_types.specs.declared.slots.Slot.{Slot}
use Rattle.rm_types.specs.declared.slots.Slot.TheVariants as slot
use Rattle.rm_types.specs.declared.slots.TheConstants.{CAPACITY}
use Rattle.rm_record.specs.declared.records.LogRecord.{LogRecord}
use Rattle.rm_record.specs.declared.records.TheConstants.{MAX_RECORDED_CATEGORY}
use Rattle.rm_record.specs.declared.records.LogRecord.TheVariants as log
use Rattle.rm_record.specs.Places.{places_bytes, ArePlaces}

-- ---- spellings

-- a row id: four bytes of page, two of slot
abbrev pub rid_bytes : Rid → List ℕ
rid_bytes rid = to_be_bytes w32 rid.page ++ to_be_bytes w16 rid.slot

-- a row: two bytes of length, and that many bytes
abbrev pub row_bytes : List ℕ → List ℕ
row_bytes row = to_be_bytes w16 (length row) ++ row

-- what a slot holds: a byte of form, and after form 1 the row
abbrev pub slot_bytes : Slot → List ℕ
slot_bytes slot.Vacant = 0 ∷ []
slot_bytes (slot.Row row) = 1 ∷ row_bytes row

-- what each change begins with after its kind: its transaction, the pending record below it, its row id and its need
abbrev pub change_bytes : TxnId → Lsn → Rid → ℕ → List ℕ
change_bytes txn under rid need = to_be_bytes w32 txn.0 ++ (to_be_bytes w64 under.0 ++ (rid_bytes rid ++ to_be_bytes w16 need))

-- a record: its kind and its fields
abbrev pub spelling : LogRecord → List ℕ
spelling (log.Insert txn under rid need row) = 1 ∷ (change_bytes txn under rid need ++ row_bytes row)
spelling (log.Delete txn under rid need row) = 2 ∷ (change_bytes txn under rid need ++ row_bytes row)
spelling (log.Update txn under rid need before after) = 3 ∷ (change_bytes txn under rid need ++ (row_bytes before ++ row_bytes after))
spelling (log.Compensate txn undone next rid back) =
    4 ∷ (to_be_bytes w32 txn.0 ++ (to_be_bytes w64 undone.0 ++ (to_be_bytes w64 next.0 ++ (rid_bytes rid ++ slot_bytes back))))
spelling (log.Inventory txn page category) = 5 ∷ (to_be_bytes w32 txn.0 ++ (to_be_bytes w32 page ++ category ∷ []))
spelling (log.Commit txn) = 6 ∷ to_be_bytes w32 txn.0
spelling (log.End txn) = 7 ∷ to_be_bytes w32 txn.0
spelling (log.Checkpoint next losers pages blocks) = 8 ∷ (to_be_bytes w64 next ++ (places_bytes losers ++ (places_bytes pages ++ places_bytes blocks)))

-- records one after another, the oldest first
abbrev pub spelling_all : List LogRecord → List ℕ
spelling_all records = flat_map spelling records

-- the record makes a change
abbrev pub MakesChange : LogRecord → Type 0
MakesChange (log.Insert txn under rid need row) = Unit {0}
MakesChange (log.Delete txn under rid need row) = Unit {0}
MakesChange (log.Update txn under rid need before after) = Unit {0}
MakesChange other = ⊥

-- ---- ranges

-- transactions have ids from 1
abbrev pub IsTxn : TxnId → Type 0
IsTxn txn = (0 < txn.0) × (txn.0 < 2 ^ 32)

-- a row id of a file of the most pages
abbrev pub IsRid : Rid → Type 0
IsRid rid = (rid.page < MAX_PAGES) × (rid.slot ≤ MAX_SLOT)

-- each is a byte
abbrev pub AreBytes : List ℕ → Type 0
AreBytes bytes = (i : ℕ) → slice_index bytes i < 256

-- a row: bytes, and not too many
pub record IsRow (row : List ℕ) : Type 0 where
  pub short : length row ≤ MAX_ROW
  pub are_bytes : AreBytes row

-- what a slot holds: no row, or one
abbrev pub IsSlot : Slot → Type 0
IsSlot slot.Vacant = Unit {0}
IsSlot (slot.Row row) = IsRow row

-- the ranges of what each change begins with
pub record IsChange (txn : TxnId) (under : Lsn) (rid : Rid) (need : ℕ) : Type 0 where
  pub by : IsTxn txn
  pub above : under.0 < 2 ^ 64
  pub place : IsRid rid
  pub reserved : need ≤ CAPACITY

-- the ranges of a compensation
pub record IsCompensation (txn : TxnId) (undone next : Lsn) (rid : Rid) (back : Slot) : Type 0 where
  pub by : IsTxn txn
  pub undoes : undone.0 < 2 ^ 64
  pub above : next.0 < 2 ^ 64
  pub place : IsRid rid
  pub held : IsSlot back

-- the ranges of an inventory record
pub record IsInventory (txn : TxnId) (page category : ℕ) : Type 0 where
  pub by : IsTxn txn
  pub page_in : page < MAX_PAGES
  pub category_in : category ≤ MAX_RECORDED_CATEGORY

-- the ranges of a checkpoint: the next id of a transaction, and for each list from which number on and to which
pub record IsCheckpoint (next : ℕ) (losers pages blocks : List Place) : Type 0 where
  pub next_in : (0 < next) × (next ≤ 2 ^ 32)
  pub losers_in : ArePlaces 1 (2 ^ 32 - 1) losers
  pub pages_in : ArePlaces 0 (MAX_PAGES - 1) pages
  pub blocks_in : ArePlaces 0 (MAX_BLOCKS - 1) blocks

-- the ranges of a record
abbrev pub IsRecord : LogRecord → Type 0
IsRecord (log.Insert txn under rid need row) = IsChange txn under rid need × IsRow row
IsRecord (log.Delete txn under rid need row) = IsChange txn under rid need × IsRow row
IsRecord (log.Update txn under rid need before after) = IsChange txn under rid need × (IsRow before × IsRow after)
IsRecord (log.Compensate txn undone next rid back) = IsCompensation txn undone next rid back
IsRecord (log.Inventory txn page category) = IsInventory txn page category
IsRecord (log.Commit txn) = IsTxn txn
IsRecord (log.End txn) = IsTxn txn
IsRecord (log.Checkpoint next losers pages blocks) = IsCheckpoint next losers pages blocks
