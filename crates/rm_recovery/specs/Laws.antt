-- What holds of all volumes that are sound, damaged or opened.
use Rattle.std.specs.Prelude.{◌≡◌, ℕ, ◌+◌, ◌<◌, ◌≤◌, Bool, IsTrue, List}
use Rattle.std.specs.List.{AllByRecursion}
use Rattle.rm_types.specs.declared.areas.Area.{Area}
use Rattle.rm_types.specs.declared.formats.Format.{Format}
use Rattle.rm_types.specs.declared.formats.Format.TheVariants.{One}
use Rattle.rm_outside.specs.Images.{Image}
use Rattle.rm_master.specs.declared.fields.Fields.{Fields}
use Rattle.rm_master.specs.Slots.{IsUnmade}
use Rattle.rm_history.specs.Acts.{History}
use Rattle.rm_history.specs.Legal.{IsLegal}
use Rattle.rm_history.specs.Logs.{Batch}
use Rattle.rm_history.specs.Sizes.{end_of}
use Rattle.rm_history.specs.Transactions.{HasRecord, greatest_txn}
use Rattle.rm_history.specs.UndoBytes.{undo_bytes}
use Rattle.rm_history.specs.UndoLaws.{IsRestarted}
use Rattle.rm_image.specs.Starts.{Start}
use Rattle.rm_image.specs.ImageLaws.{IsOfTxn}
use Rattle.rm_image.specs.Whole.{IsSoundBy}
use Rattle.rm_recovery.specs.Opening.{IsDamage, IsSettled}

-- the history is legal, and each record is of a transaction: no log has a checkpoint yet
abbrev pub IsKept : Format → History → Type 0
IsKept format history = IsLegal format history × AllByRecursion IsOfTxn history

-- The image is sound with such a log, and its master names no checkpoint and no copy.
pub record IsOfLog (c : Image) : Type 0 where
  pub start : Start
  pub fields : Fields
  pub batches : List Batch
  pub sound : IsSoundBy IsKept c start fields batches
  pub checkpoint : fields.checkpoint ≡ 0
  pub half : fields.half ≡ 0

-- what is damaged is not sound, and neither is what is not made
abbrev pub DamagedIsNotSound : Type 0
DamagedIsNotSound = (content : Image) (area : Area) (at : ℕ) → IsDamage content area at → IsOfLog content → ⊥

abbrev pub UnmadeIsNotSound : Type 0
UnmadeIsNotSound = (content : Image) → IsUnmade content → IsOfLog content → ⊥

-- What a restart leaves of a legal log: a legal one, in which each transaction is finished, and which is no longer than was kept for it.
pub record IsFit (before now : History) : Type 0 where
  pub restarted : IsRestarted One before now
  pub fresh : (txn : ℕ) → HasRecord now txn → txn < greatest_txn before + 1
  pub room : end_of now ≤ end_of before + undo_bytes One before

abbrev pub SettledIsFit : Type 0
SettledIsFit = (models : Bool) (before now : History) → IsSettled (IsTrue models) before now → IsTrue models → IsLegal One before → IsFit before now
