-- Which change a record of the log makes.
use Rattle.std.specs.Prelude.{◌≡◌, ℕ, ◌≤◌, ◌⊎◌, Option, Some, None}
use Rattle.rm_types.specs.declared.areas.Area.TheVariants.{Log}
use Rattle.rm_types.specs.declared.faults.Fault.TheVariants as fault
use Rattle.rm_types.specs.declared.faults.StoreFault.{StoreFault}
use Rattle.rm_types.specs.declared.faults.StoreFault.TheVariants as store
use Rattle.rm_types.specs.declared.formats.Format.{Format}
use Rattle.rm_types.specs.declared.numbers.Lsn.{Lsn}
use Rattle.rm_types.specs.declared.numbers.TxnId.{TxnId}
use Rattle.rm_types.specs.declared.slots.Slot.TheVariants.{Vacant, Row}
use Rattle.rm_record.specs.declared.records.LogRecord.{LogRecord}
use Rattle.rm_record.specs.declared.records.LogRecord.TheVariants.{Insert, Delete, Update, Compensate, Inventory, Commit, End, Checkpoint}
use Rattle.rm_record.specs.Records.{IsRid, IsSlot}
use Rattle.rm_history.specs.Acts.{Change, History, changes}
use Rattle.rm_history.specs.Legal.{category_with}
use Rattle.rm_pool.specs.Journals.{IsIn}
use Rattle.rm_undo.specs.declared.changes.Pending.{Pending}

-- what of a change its undo asks for, if the record makes one
abbrev pub change_in : LogRecord → Option Pending
change_in (Insert txn under rid need row) = Some (record { txn = txn; under = under; rid = rid; need = need; before = Vacant })
change_in (Delete txn under rid need old) = Some (record { txn = txn; under = under; rid = rid; need = need; before = Row old })
change_in (Update txn under rid need old new) = Some (record { txn = txn; under = under; rid = rid; need = need; before = Row old })
change_in (Compensate txn undone next rid back) = None
change_in (Inventory txn page category) = None
change_in (Commit txn) = None
change_in (End txn) = None
change_in (Checkpoint next losers pages blocks) = None

-- of this change
pub record IsOf (c : Change) (pending : Pending) : Type 0 where
  pub txn : pending.txn.0 ≡ c.txn
  pub under : pending.under.0 ≡ c.under
  pub rid : pending.rid ≡ c.rid
  pub need : pending.need ≡ c.need
  pub before : pending.before ≡ c.before

-- a record may put back what the slot held
pub record MayGoBack (pending : Pending) : Type 0 where
  pub place : IsRid pending.rid
  pub held : IsSlot pending.before

-- the transaction's change with this LSN is in the history
pub record HasChangeAt (history : History) (txn lsn : ℕ) (c : Change) : Type 0 where
  pub is_in : IsIn (changes c) history
  pub lsn_is : c.lsn ≡ lsn
  pub txn_is : c.txn ≡ txn

-- the category of its page once it is undone
abbrev pub category_without : Format → History → Pending → ℕ
category_without format before pending = category_with format before pending.rid pending.before

-- if the volume models its content, this holds of the transaction's change with this LSN
abbrev pub OfChange : Type 0 → History → TxnId → Lsn → (Change → Type 0) → Type 0
OfChange models history txn lsn P = models → (c : Change) → HasChangeAt history txn.0 lsn.0 c → P c

-- the pending record below the change is not below it, or its page is not of the file
abbrev pub IsAstray : Lsn → ℕ → Change → Type 0
IsAstray lsn size c = (lsn.0 ≤ c.under) ⊎ (size ≤ c.rid.page)

-- if the fault is that the volume is damaged, then area Log is, at this LSN, and so it is
abbrev pub IsDamageAt : Lsn → Type 0 → StoreFault → Type 0
IsDamageAt lsn Why (store.Fault (fault.Damaged area at)) = (area ≡ Log) × (at ≡ lsn.0) × Why
IsDamageAt lsn Why (store.Fault (fault.Volume area)) = Unit {0}
IsDamageAt lsn Why store.NoMemory = Unit {0}
