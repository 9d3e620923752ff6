-- The pages and blocks in memory after one more record.
use Rattle.std.proofs.Common.{◌≡◌, ◌⊎◌, inl, inr, ℕ, ◌/◌, ◌<◌, ◌≤◌, List, [], ◌∷◌, length, get_or, set, Option, Some, None, IfSome, IsSomeAnd, option_map, refl, sym, ap, subst, arith, rules}
use Rattle.std.proofs.lemmas.Option.{none-some, same_Some}
use Rattle.rm_types.specs.declared.formats.TheConstants.{MAX_CATEGORY}
use Rattle.rm_types.specs.declared.numbers.Rid.{Rid}
use Rattle.rm_types.specs.declared.numbers.Lsn.{Lsn}
use Rattle.rm_types.specs.declared.numbers.TheConstants.{BLOCK_PAGES}
use Rattle.rm_types.specs.declared.slots.Slot.{Slot}
use Rattle.rm_model.specs.Pages.{PageValue}
use Rattle.rm_record.specs.declared.records.LogRecord.{LogRecord}
use Rattle.rm_record.specs.declared.records.LogRecord.TheVariants.{Insert, Delete, Update, Compensate, Inventory, Commit, End, Checkpoint}
use Rattle.rm_history.specs.Acts.{History, changes, undoes, enters, commits, ends, marks, act_at}
use Rattle.rm_history.specs.Contents.{page_of, version_of, block_version_of}
use Rattle.rm_inventory.specs.Inventory.{InventoryValue}
use Rattle.rm_apply.specs.declared.answers.Applied.{Applied}
use Rattle.rm_apply.specs.declared.answers.Applied.TheVariants.{Changed, Older}
use Rattle.rm_apply.specs.Redo.{set_by, rid_of, CannotHave, ChangesPage, IsUnfit, Redoes}
use Rattle.rm_apply.specs.Entries.{entered_by, ChangesBlock, RedoesEntry}
use Rattle.rm_pool.specs.Frames.{FramesValue, EachIs, IsPageOf, IsBlockOf, AreFrames, CannotTake, IsAfter}

-- the LSN of a later record is above those of the pages and of the blocks
version_below : (history : History) (page lsn : ℕ) → IsAfter history lsn → version_of history page < lsn
version_below [] page lsn after = after
version_below (changes c ∷ before) page lsn after = search (rules, version_below before page lsn after.1)
version_below (undoes u ∷ before) page lsn after = search (rules, version_below before page lsn after.1)
version_below (enters e ∷ before) page lsn after = version_below before page lsn after.1
version_below (commits f ∷ before) page lsn after = version_below before page lsn after.1
version_below (ends f ∷ before) page lsn after = version_below before page lsn after.1
version_below (marks m ∷ before) page lsn after = version_below before page lsn after.1

block_version_below : (history : History) (block lsn : ℕ) → IsAfter history lsn → block_version_of history block < lsn
block_version_below [] block lsn after = after
block_version_below (changes c ∷ before) block lsn after = block_version_below before block lsn after.1
block_version_below (undoes u ∷ before) block lsn after = block_version_below before block lsn after.1
block_version_below (enters e ∷ before) block lsn after = search (rules, block_version_below before block lsn after.1)
block_version_below (commits f ∷ before) block lsn after = block_version_below before block lsn after.1
block_version_below (ends f ∷ before) block lsn after = block_version_below before block lsn after.1
block_version_below (marks m ∷ before) block lsn after = block_version_below before block lsn after.1

-- the frames after a record, with what is fixed then
pub frames_after : (history next : History) (pages more : List PageValue) (blocks others : List InventoryValue) (page block fixed fixed_block : Option ℕ)
    → AreFrames history pages blocks page block → length more ≡ length pages → length others ≡ length blocks
    → EachIs (IsPageOf next) more → EachIs (IsBlockOf next) others
    → IfSome fixed (λ number. number < length pages) → IfSome fixed_block (λ number. number < length blocks) → AreFrames next more others fixed fixed_block
frames_after history next pages more blocks others page block fixed fixed_block was same_pages same_blocks each_page each_block page_inside block_inside =
    record {
      size = omega (arith, was.size);
      count = search rules;
      each_page = each_page;
      each_block = each_block;
      page_inside = search rules;
      block_inside = search rules;
    }

-- the pages, and the blocks, after redo of a record
pages_redone : (history : History) (what : LogRecord) (lsn : Lsn) (one : Rid × Slot) (applied : Applied) (pages : List PageValue) (old new : PageValue)
    → set_by what ≡ Some one → EachIs (IsPageOf history) pages → IsAfter history lsn.0 → one.0.page < length pages → old ≡ get_or pages one.0.page old
    → Redoes one.0.page old what lsn applied new → EachIs (IsPageOf (act_at lsn.0 what ∷ history)) (set pages one.0.page new)
pages_redone history what lsn one applied pages old new is each after inside read made =
    search (rules, version_below)

blocks_redone : (history : History) (what : LogRecord) (lsn : Lsn) (one : ℕ × ℕ) (applied : Applied) (blocks : List InventoryValue) (old new : InventoryValue)
    → entered_by what ≡ Some one → EachIs (IsBlockOf history) blocks → IsAfter history lsn.0 → (one.0 / BLOCK_PAGES) < length blocks
    → old ≡ get_or blocks (one.0 / BLOCK_PAGES) old → RedoesEntry (one.0 / BLOCK_PAGES) old what lsn applied new
    → EachIs (IsBlockOf (act_at lsn.0 what ∷ history)) (set blocks (one.0 / BLOCK_PAGES) new)
blocks_redone history what lsn one applied blocks old new is each after inside read made =
    search (rules, block_version_below)

-- the slot that a record sets, by its row id
set_with : (set : Option (Rid × Slot)) (rid : Rid) → option_map (λ (one : Rid × Slot). one.0) set ≡ Some rid → (slot : Slot) × (set ≡ Some (rid, slot))
set_with None rid is = absurd (none-some rid is)
set_with (Some one) rid is = (one.1, ap (λ (r : Rid). Some (r, one.1)) (same_Some one.0 rid is))

-- the frames after a record that redo applied to a page, or to a block, which it fixes; and after one that names neither
pub frames_with_page : (history : History) (what : LogRecord) (lsn : Lsn) (rid : Rid) (applied : Applied) (pages : List PageValue)
    (blocks : List InventoryValue) (page block : Option ℕ) (old new : PageValue) → AreFrames history pages blocks page block → IsAfter history lsn.0
    → entered_by what ≡ None → Some rid ≡ rid_of what → rid.page < length pages → old ≡ get_or pages rid.page old
    → ((number : ℕ) → ChangesPage what number → Redoes number old what lsn applied new)
    → AreFrames (act_at lsn.0 what ∷ history) (set pages rid.page new) blocks (Some rid.page) block
frames_with_page history what lsn rid applied pages blocks page block old new was after none named inside read made =
    record {
      size = search rules;
      count = search rules;
      each_page =
          let one : (slot : Slot) × (set_by what ≡ Some (rid, slot)) = set_with (set_by what) rid (sym named) in
          pages_redone history what lsn (rid, one.0) applied pages old new one.1 was.each_page after inside read (made rid.page (rw one.1 refl));
      each_block = search rules;
      page_inside = search rules;
      block_inside = search rules;
    }

pub frames_with_block : (history : History) (what : LogRecord) (lsn : Lsn) (one : ℕ × ℕ) (applied : Applied) (pages : List PageValue)
    (blocks : List InventoryValue) (page block : Option ℕ) (old new : InventoryValue) → AreFrames history pages blocks page block → IsAfter history lsn.0
    → Some one ≡ entered_by what → one.0 < length pages → old ≡ get_or blocks (one.0 / BLOCK_PAGES) old
    → ((number : ℕ) → ChangesBlock what number → RedoesEntry number old what lsn applied new)
    → AreFrames (act_at lsn.0 what ∷ history) pages (set blocks (one.0 / BLOCK_PAGES) new) page (Some (one.0 / BLOCK_PAGES))
frames_with_block history what lsn one applied pages blocks page block old new was after named inside read made =
    record {
      size = search rules;
      count = search rules;
      each_page = search rules;
      each_block =
          blocks_redone history what lsn one applied blocks old new (sym named) was.each_block after (omega (arith, was.count)) read
          (made (one.0 / BLOCK_PAGES) (rw (← named) refl));
      page_inside = search rules;
      block_inside = search rules;
    }

pub frames_kept : (history : History) (what : LogRecord) (lsn : ℕ) (pages : List PageValue) (blocks : List InventoryValue) (page block : Option ℕ)
    → AreFrames history pages blocks page block → entered_by what ≡ None → rid_of what ≡ None → AreFrames (act_at lsn what ∷ history) pages blocks page block
frames_kept history what lsn pages blocks page block was no_entry no_slot =
    search rules

-- ---- what was repeated is what the file can have

pub took_entry : (frames : FramesValue) (what : LogRecord) (page category : ℕ) → entered_by what ≡ Some (page, category) → page < frames.size
    → category ≤ MAX_CATEGORY → CannotTake frames what → ⊥
took_entry frames (Insert txn under rid need row) page category is inside within cannot = absurd cc
took_entry frames (Delete txn under rid need old) page category is inside within cannot = absurd cc
took_entry frames (Update txn under rid need old new) page category is inside within cannot = absurd cc
took_entry frames (Compensate txn undone next rid back) page category is inside within cannot = absurd cc
took_entry frames (Inventory txn p c) page category is inside within (inl cannot) = cannot
took_entry frames (Inventory txn p c) page category is inside within (inr (inl past)) = let same : p ≡ page = ap (λ (x : ℕ × ℕ). x.0) (same_Some (p, c) (page, category) is) in omega (arith, same, past, inside)
took_entry frames (Inventory txn p c) page category is inside within (inr (inr more)) = let same : c ≡ category = ap (λ (x : ℕ × ℕ). x.1) (same_Some (p, c) (page, category) is) in omega (arith, same, more, within)
took_entry frames (Commit txn) page category is inside within cannot = absurd cc
took_entry frames (End txn) page category is inside within cannot = absurd cc
took_entry frames (Checkpoint next losers pages blocks) page category is inside within cannot = absurd cc

pub took_none : (frames : FramesValue) (what : LogRecord) → entered_by what ≡ None → rid_of what ≡ None → CannotTake frames what → ⊥
took_none frames (Insert txn under rid need row) none named cannot = absurd cc
took_none frames (Delete txn under rid need old) none named cannot = absurd cc
took_none frames (Update txn under rid need old new) none named cannot = absurd cc
took_none frames (Compensate txn undone next rid back) none named cannot = absurd cc
took_none frames (Inventory txn page category) none named cannot = absurd cc
took_none frames (Commit txn) none named cannot = elim cannot [ inl set ↦ set | inr enter ↦ enter ]
took_none frames (End txn) none named cannot = elim cannot [ inl set ↦ set | inr enter ↦ enter ]
took_none frames (Checkpoint next losers pages blocks) none named cannot = elim cannot [ inl set ↦ set | inr enter ↦ enter ]

fits_redone : (page : ℕ) (what : LogRecord) (lsn : Lsn) (applied : Applied) (old new : PageValue) → old.lsn.0 < lsn.0 → Redoes page old what lsn applied new
    → IsUnfit old.slots what → ⊥
fits_redone page what lsn Changed old new below redone unfit = redone.1 unfit
fits_redone page what lsn Older old new below redone unfit = omega (arith, below, redone.0)

pub took_slot : (frames : FramesValue) (what : LogRecord) (lsn : Lsn) (rid : Rid) (applied : Applied) (pages : List PageValue) (old new : PageValue)
    → EachIs (IsPageOf frames.applied) pages → IsAfter frames.applied lsn.0 → entered_by what ≡ None → Some rid ≡ rid_of what → rid.page < length pages
    → rid.page < frames.size → old ≡ get_or pages rid.page old → ((number : ℕ) → ChangesPage what number → Redoes number old what lsn applied new)
    → CannotTake frames what → ⊥
took_slot frames what lsn rid applied pages old new each after none named inside within read made (inr enter) =
    subst (λ (o : Option (ℕ × ℕ)). IsSomeAnd o (λ entered. (frames.size ≤ entered.0) ⊎ (MAX_CATEGORY < entered.1)) → ⊥) (sym none) (λ nothing. nothing) enter
took_slot frames what lsn rid applied pages old new each after none named inside within read made (inl cannot) =
    let one : (slot : Slot) × (set_by what ≡ Some (rid, slot)) = set_with (set_by what) rid (sym named) in
    let page : IsPageOf frames.applied rid.page old = subst (IsPageOf frames.applied rid.page) (sym read) (each rid.page old inside) in
    let below : old.lsn.0 < lsn.0 = omega (arith, page.version, version_below frames.applied rid.page lsn.0 after) in
    let fits = fits_redone rid.page what lsn applied old new below (made rid.page (rw one.1 refl)) in
    let set : (frames.size ≤ rid.page) ⊎ CannotHave (page_of frames.applied rid.page) rid.slot one.0 =
    subst (λ (o : Option (Rid × Slot)). IsSomeAnd o (λ set. (frames.size ≤ set.0.page) ⊎ CannotHave (page_of frames.applied set.0.page) set.0.slot set.1)) one.1 cannot in
    elim set [
      | inl past ↦ omega (arith, past, within)
      | inr over ↦ fits (subst (λ (o : Option (Rid × Slot)). IsSomeAnd o (λ set. CannotHave old.slots set.0.slot set.1)) (sym one.1)
          (subst (λ (slots : List Slot). CannotHave slots rid.slot one.0) (sym page.slots) over))
    ]
