-- The pages and the inventory of a file in memory, and the records that they have.
use Rattle.std.specs.Prelude.{◌≡◌, ℕ, ◌+◌, ◌-◌, ◌*◌, ◌/◌, ◌<◌, ◌≤◌, ◌⊎◌, List, [], ◌∷◌, length, slice_index, slice_index_or, Option, Some, None, IfSome, IsSomeAnd}
use Rattle.rm_types.specs.declared.formats.TheConstants.{MAX_CATEGORY}
use Rattle.rm_types.specs.declared.numbers.Rid.{Rid}
use Rattle.rm_types.specs.declared.numbers.TheConstants.{BLOCK_PAGES, MAX_PAGES}
use Rattle.rm_types.specs.declared.slots.Slot.{Slot}
use Rattle.rm_types.specs.declared.slots.Slot.TheVariants.{Vacant, Row}
use Rattle.rm_model.specs.Pages.{PageValue}
use Rattle.rm_record.specs.declared.records.LogRecord.{LogRecord}
use Rattle.rm_history.specs.Acts.{History, act_at, lsn_of}
use Rattle.rm_history.specs.Contents.{page_of, version_of, entry_of, block_version_of}
use Rattle.rm_page.specs.Directory.{IsReady}
use Rattle.rm_inventory.specs.Inventory.{InventoryValue}
use Rattle.rm_apply.specs.Redo.{set_by, CannotHave}
use Rattle.rm_apply.specs.Entries.{entered_by}

-- The history that all pages and all blocks of the inventory have, how many pages there are, and which page and which block
-- are fixed.
pub record FramesValue : Type 0 where
  pub applied : History
  pub size : ℕ
  pub page : Option ℕ
  pub block : Option ℕ

-- the page with this number, as the history has it
pub record IsPageOf (history : History) (number : ℕ) (page : PageValue) : Type 0 where
  pub slots : page.slots ≡ page_of history number
  pub version : page.lsn.0 ≡ version_of history number

-- the block of the inventory with this number, as the history has it
pub record IsBlockOf (history : History) (number : ℕ) (block : InventoryValue) : Type 0 where
  pub entries : (index : ℕ) → index < BLOCK_PAGES → slice_index block.entries index ≡ entry_of history (BLOCK_PAGES * number + index)
  pub version : block.lsn.0 ≡ block_version_of history number

-- each of these is what its number has to be
abbrev pub EachIs : {X : Type 0} → (ℕ → X → Type 0) → List X → Type 0
EachIs Is items = (number : ℕ) (other : _) → number < length items → Is number (slice_index_or items number other)

-- how many blocks describe so many pages
abbrev pub blocks_for : ℕ → ℕ
blocks_for pages = (pages + BLOCK_PAGES - 1) / BLOCK_PAGES

-- What is in memory: all pages and all blocks of a file, as the history has them; the fixed ones are among them.
pub record AreFrames (history : History) (pages : List PageValue) (blocks : List InventoryValue) (page block : Option ℕ) : Type 0 where
  pub size : length pages ≤ MAX_PAGES
  pub count : length blocks ≡ blocks_for (length pages)
  pub each_page : EachIs (IsPageOf history) pages
  pub each_block : EachIs (IsBlockOf history) blocks
  pub page_inside : IfSome page (λ number. number < length pages)
  pub block_inside : IfSome block (λ number. number < length blocks)

-- what the record sets is in the fixed page, and what it enters in the fixed block
pub record IsForFixed (frames : FramesValue) (what : LogRecord) : Type 0 where
  pub page : IfSome (set_by what) (λ set. frames.page ≡ Some set.0.page)
  pub block : IfSome (entered_by what) (λ entered. frames.block ≡ Some (entered.0 / BLOCK_PAGES))

-- the file cannot have the slot that the record sets: there is no such page, or it has no such slot to be vacant, or no room for the row
abbrev pub CannotSet : FramesValue → LogRecord → Type 0
CannotSet frames what =
    IsSomeAnd (set_by what) (λ set. (frames.size ≤ set.0.page) ⊎ CannotHave (page_of frames.applied set.0.page) set.0.slot set.1)

-- it cannot have the category that the record enters: there is no such page, or no such category
abbrev pub CannotEnter : FramesValue → LogRecord → Type 0
CannotEnter frames what = IsSomeAnd (entered_by what) (λ entered. (frames.size ≤ entered.0) ⊎ (MAX_CATEGORY < entered.1))

-- The file cannot have what the record does.
abbrev pub CannotTake : FramesValue → LogRecord → Type 0
CannotTake frames what = CannotSet frames what ⊎ CannotEnter frames what

-- the spare memory is enough for these slots to have this in one of them: a row may need some, a vacant slot never does
abbrev pub HasMemory : List Slot → ℕ → Slot → Option ℕ → Type 0
HasMemory slots number Vacant spare = Unit {0}
HasMemory slots number (Row row) None = ⊥
HasMemory slots number (Row row) (Some spare) = IsReady slots number spare

-- the page of the slot that is set is there, can have the slot, and has the memory for it
abbrev pub MaySet : List PageValue → Option ℕ → Rid × Slot → Type 0
MaySet pages spare one = (one.0.page < length pages) × ((other : PageValue) → let slots = (slice_index_or pages one.0.page other).slots in
    (CannotHave slots one.0.slot one.1 → ⊥) × HasMemory slots one.0.slot one.1 spare)

-- The record may be put with this spare memory.
pub record IsReadyFor (frames : FramesValue) (what : LogRecord) (spare : Option ℕ) : Type 0 where
  pub is_for : IsForFixed frames what
  pub takes : CannotTake frames what → ⊥
  pub memory : IfSome (set_by what) (λ set. HasMemory (page_of frames.applied set.0.page) set.0.slot set.1 spare)

-- the LSN is greater than that of each record, and than 0
abbrev pub IsAfter : History → ℕ → Type 0
IsAfter [] lsn = 0 < lsn
IsAfter (act ∷ before) lsn = (lsn_of act < lsn) × IsAfter before lsn

-- the page that a record sets a slot of, and the block that it enters a category in; where there is none the one that was fixed stays
abbrev pub page_fixed : Option (Rid × Slot) → Option ℕ → Option ℕ
page_fixed None fixed = fixed
page_fixed (Some set) fixed = Some set.0.page

abbrev pub block_fixed : Option (ℕ × ℕ) → Option ℕ → Option ℕ
block_fixed None fixed = fixed
block_fixed (Some entered) fixed = Some (entered.0 / BLOCK_PAGES)

-- The frames after a record of the log is repeated: it is applied, and what it names is fixed.
abbrev pub repeated : FramesValue → LogRecord → ℕ → FramesValue
repeated frames what lsn = record {
  applied = act_at lsn what ∷ frames.applied;
  size = frames.size;
  page = page_fixed (set_by what) frames.page;
  block = block_fixed (entered_by what) frames.block;
}
