-- A block stands for a history just where it has a prefix of it.
use Rattle.std.proofs.Common.{◌≡◌, ℕ, ◌+◌, ◌*◌, ◌/◌, ◌≤◌, ◌<◌, ◌==◌, Bool, true, false, cond, List, [], ◌∷◌, refl, sym, ap, ◌∙◌}
use Rattle.std.proofs.Common.{arith}
use Rattle.std.proofs.lemmas.Bool.{eq-eqb, ne_eqb}
use Rattle.rm_types.specs.declared.slots.Slot.{Slot}
use Rattle.rm_types.specs.declared.numbers.TheConstants.{BLOCK_PAGES}
use Rattle.rm_history.specs.Acts.{Act, History, changes, undoes, enters, lsn_of, newest_lsn}
use Rattle.rm_history.specs.Contents.{page_of, version_of, version_after, entry_of, block_version_of}
use Rattle.rm_history.specs.Rules.{IsInOrder}
use Rattle.rm_image.specs.Standing.{IsOnPage, IsInBlock, HoldsPage, HoldsEntries}
use Rattle.rm_image.specs.Laws.{BlocksHavePrefixes, InventoryBlocksHavePrefixes}
use Rattle.rm_image.proofs.PrefixLemmas.{IsBlock, prefixes}

-- each of two numbers is within a bound: so is the one that is taken
cond-le : (test : Bool) (a b bound : ℕ) → a ≤ bound → b ≤ bound → cond test a b ≤ bound
cond-le true a b bound first second = first
cond-le false a b bound first second = second

-- ---- the block of a page

module _ (page : ℕ) where
  -- a record on the page gives it its LSN as version, and any other leaves version and slots
  pub version_on : (act : Act) (before : History) → IsOnPage page act → version_of (act ∷ before) page ≡ lsn_of act
  version_on (changes c) before on = rw (eq-eqb c.rid.page page on) refl
  version_on (undoes u) before on = rw (eq-eqb u.rid.page page on) refl
  version_on other before on = absurd on

  pub version_off : (act : Act) (before : History) → (IsOnPage page act → ⊥)
      → version_of (act ∷ before) page ≡ version_of before page
  version_off (changes c) before off = rw (ne_eqb c.rid.page page off) refl
  version_off (undoes u) before off = rw (ne_eqb u.rid.page page off) refl
  version_off other before off = refl

  pub page_off : (act : Act) (before : History) → (IsOnPage page act → ⊥) → page_of (act ∷ before) page ≡ page_of before page
  page_off (changes c) before off = rw (ne_eqb c.rid.page page off) refl
  page_off (undoes u) before off = rw (ne_eqb u.rid.page page off) refl
  page_off other before off = refl

  -- the version is not above the newest record
  version_after-le : (act : Act) (version : ℕ) → version ≤ lsn_of act → version_after act page version ≤ lsn_of act
  version_after-le (changes c) version le = cond-le (c.rid.page == page) c.lsn version c.lsn (omega arith) le
  version_after-le (undoes u) version le = cond-le (u.rid.page == page) u.lsn version u.lsn (omega arith) le
  version_after-le other version le = le

  pub version_within : (history : History) → IsInOrder history → version_of history page ≤ newest_lsn history
  version_within [] ordered = omega arith
  version_within (act ∷ before) ordered =
      version_after-le act (version_of before page) (omega (arith, version_within before ordered.0, ordered.1.above))

  module _ (gates : ℕ → ℕ) (version : ℕ) (slots : List Slot) (redo : ℕ) where
    -- so the lemmas on prefixes hold of a page's block
    pub is_block : IsBlock (HoldsPage page version slots) (IsOnPage page) gates version redo
    is_block = record {
      stays = λ act before off holds. (holds.0 ∙ sym (version_off act before off), holds.1 ∙ sym (page_off act before off));
      was = λ act before off holds. (holds.0 ∙ version_off act before off, holds.1 ∙ page_off act before off);
      has = λ act before holds on. omega (arith, holds.0, version_on act before on);
      within = λ history ordered holds. omega (arith, holds.0, version_within history ordered);
    }

-- what is said of a page's block record by record, and of a prefix, is one
pub blocks_have_prefixes : BlocksHavePrefixes
blocks_have_prefixes gates history page version slots redo ordered rise =
    prefixes (HoldsPage page version slots) (IsOnPage page) gates version redo (is_block page gates version slots redo) rise history ordered

-- ---- a block of the inventory

-- the pages that a block describes are of it
block_of-page : (block index : ℕ) → index < BLOCK_PAGES → (BLOCK_PAGES * block + index) / BLOCK_PAGES ≡ block
block_of-page block index inside = omega arith

module _ (block : ℕ) where
  -- a record in the block gives it its LSN as version, and any other leaves version and entries
  pub block_version_on : (act : Act) (before : History) → IsInBlock block act → block_version_of (act ∷ before) block ≡ lsn_of act
  block_version_on (enters e) before on = rw (eq-eqb (e.page / BLOCK_PAGES) block on) refl
  block_version_on other before on = absurd on

  pub block_version_off : (act : Act) (before : History) → (IsInBlock block act → ⊥)
      → block_version_of (act ∷ before) block ≡ block_version_of before block
  block_version_off (enters e) before off = rw (ne_eqb (e.page / BLOCK_PAGES) block off) refl
  block_version_off other before off = refl

  pub entry_off : (act : Act) (before : History) → (IsInBlock block act → ⊥) → (index : ℕ) → index < BLOCK_PAGES
      → entry_of (act ∷ before) (BLOCK_PAGES * block + index) ≡ entry_of before (BLOCK_PAGES * block + index)
  entry_off (enters e) before off index inside =
      let other : e.page ≡ BLOCK_PAGES * block + index → ⊥ = λ same. off (ap (λ (n : ℕ). n / BLOCK_PAGES) same ∙ block_of-page block index inside) in
      rw (ne_eqb e.page (BLOCK_PAGES * block + index) other) refl
  entry_off other before off index inside = refl

  -- the version is not above the newest record
  pub block_version_within : (history : History) → IsInOrder history → block_version_of history block ≤ newest_lsn history
  block_version_within [] ordered = omega arith
  block_version_within (enters e ∷ before) ordered =
      cond-le ((e.page / BLOCK_PAGES) == block) e.lsn (block_version_of before block) e.lsn (omega arith)
      (omega (arith, block_version_within before ordered.0, ordered.1.above))
  block_version_within (other ∷ before) ordered = omega (arith, block_version_within before ordered.0, ordered.1.above)

  module _ (gates : ℕ → ℕ) (version : ℕ) (entries : ℕ → ℕ) (redo : ℕ) where
    -- and of a block of the inventory
    pub is_entries_block : IsBlock (HoldsEntries block version entries) (IsInBlock block) gates version redo
    is_entries_block = record {
      stays = λ act before off holds. (
        holds.0 ∙ sym (block_version_off act before off),
        λ index inside. holds.1 index inside ∙ sym (entry_off act before off index inside),
      );
      was = λ act before off holds. (
        holds.0 ∙ block_version_off act before off,
        λ index inside. holds.1 index inside ∙ entry_off act before off index inside,
      );
      has = λ act before holds on. omega (arith, holds.0, block_version_on act before on);
      within = λ history ordered holds. omega (arith, holds.0, block_version_within history ordered);
    }

-- and so is what is said of a block of the inventory
pub inventory_blocks_have_prefixes : InventoryBlocksHavePrefixes
inventory_blocks_have_prefixes gates history block version entries redo ordered rise =
    prefixes (HoldsEntries block version entries) (IsInBlock block) gates version redo (is_entries_block block gates version entries redo) rise history ordered
