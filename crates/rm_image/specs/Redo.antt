-- What redo makes of a block: records are repeated in order, from an offset on, each where its LSN is above the block's version.
use Rattle.std.specs.Prelude.{ℕ, ◌+◌, ◌*◌, ◌&&◌, nat_le, nat_lt, if◌then◌else◌, List, [], ◌∷◌, Bool}
use Rattle.rm_types.specs.declared.numbers.TheConstants.{BLOCK_PAGES}
use Rattle.rm_types.specs.declared.slots.Slot.{Slot}
use Rattle.rm_history.specs.Acts.{Act, History, lsn_of}
use Rattle.rm_history.specs.Contents.{page_after, version_after, entry_after, block_version_after}

-- what a page's block stands for, and what a block of the inventory does
pub record PageBlock : Type 0 where
  pub version : ℕ
  pub slots : List Slot

pub record EntriesBlock : Type 0 where
  pub version : ℕ
  pub entries : ℕ → ℕ

-- a page's block after a record, and a block of the inventory
abbrev pub repeated : ℕ → Act → PageBlock → PageBlock
repeated page act block = record { version = version_after act page block.version; slots = page_after act page block.slots }

abbrev pub entry_repeated : ℕ → Act → EntriesBlock → EntriesBlock
entry_repeated number act block = record {
  version = block_version_after act number block.version;
  entries = λ index. entry_after act (BLOCK_PAGES * number + index) (block.entries index);
}

-- a record is due: its batch's gate is not before the offset, and its LSN is above the version
abbrev pub is_due : (ℕ → ℕ) → ℕ → Act → ℕ → Bool
is_due gates from act version = nat_le from (gates (lsn_of act)) && nat_lt version (lsn_of act)

-- A block with all records of a history repeated that are due, the oldest first. Two functions say what its version is, and what
-- it is after a record.
abbrev pub redone : {B : Type 0} → (B → ℕ) → (Act → B → B) → (ℕ → ℕ) → ℕ → History → B → B
redone version after gates from [] block = block
redone version after gates from (act ∷ before) block =
    let older = redone version after gates from before block in
    if is_due gates from act (version older) then after act older else older

abbrev pub page_redone : (ℕ → ℕ) → ℕ → ℕ → History → PageBlock → PageBlock
page_redone gates from page history block = redone (λ (b : PageBlock). b.version) (repeated page) gates from history block

abbrev pub entries_redone : (ℕ → ℕ) → ℕ → ℕ → History → EntriesBlock → EntriesBlock
entries_redone gates from number history block = redone (λ (b : EntriesBlock). b.version) (entry_repeated number) gates from history block
