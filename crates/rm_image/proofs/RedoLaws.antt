-- Redo brings a block that stands for a log up to the log.
use Rattle.std.proofs.Common.{◌≡◌, inl, inr, ℕ, ◌+◌, ◌*◌, ◌≤◌, ◌<◌, ◌&&◌, Bool, true, false, cond, nat_le, nat_lt, []}
use Rattle.std.proofs.Common.{◌∷◌, refl, sym, ap, subst, ◌∙◌, arith}
use Rattle.std.proofs.Math.Bool.{and-false}
use Rattle.std.proofs.lemmas.Bool.{cases_lt, le-leb, le-ltb, and_from}
use Rattle.rm_types.specs.declared.numbers.TheConstants.{BLOCK_PAGES}
use Rattle.rm_history.specs.Acts.{Act, History, lsn_of, newest_lsn}
use Rattle.rm_history.specs.Contents.{page_after, version_after, entry_after, block_version_after}
use Rattle.rm_history.specs.Rules.{IsInOrder}
use Rattle.rm_image.specs.Standing.{Stands, IsOnPage, IsInBlock, HoldsPage, HoldsEntries}
use Rattle.rm_image.specs.Redo.{PageBlock, EntriesBlock, repeated, entry_repeated, is_due, redone}
use Rattle.rm_image.specs.Laws.{RedoBringsPagesUp, RedoBringsEntriesUp}
use Rattle.rm_image.proofs.PrefixLaws.{version_off, page_off, block_version_off, entry_off, version_within, block_version_within}

-- ---- which records are due

-- where the gate is not before the offset and the LSN is above the version
due : (gates : ℕ → ℕ) (from : ℕ) (act : Act) (version : ℕ) → from ≤ gates (lsn_of act) → version < lsn_of act
    → is_due gates from act version ≡ true
due gates from act version late above =
    and_from (nat_le from (gates (lsn_of act))) (nat_lt version (lsn_of act)) (le-leb from (gates (lsn_of act)) late) (le-leb _ (lsn_of act) above)

-- none where it is not
not_due : (gates : ℕ → ℕ) (from : ℕ) (act : Act) (version : ℕ) → lsn_of act ≤ version → is_due gates from act version ≡ false
not_due gates from act version below =
    ap (λ (b : Bool). nat_le from (gates (lsn_of act)) && b) (le-ltb version (lsn_of act) below) ∙ and-false (nat_le from (gates (lsn_of act)))

-- What a block is after a record, and which block holds what a history says.
module _ (B : Type 0) (version : B → ℕ) (after : Act → B → B) (Is : B → History → Type 0) (IsOnIt : Act → Type 0) where
  -- What redo stands on: a record repeated goes on in the history, and so does any block at a record that is not on it.
  pub record IsRedo : Type 0 where
    pub goes_on : (act : Act) (before : History) (block : B) → Is block before → Is (after act block) (act ∷ before)
    pub stays : (act : Act) (before : History) (block : B) → (IsOnIt act → ⊥) → Is block before → Is block (act ∷ before)
    pub within : (history : History) (block : B) → IsInOrder history → Is block history → version block ≤ newest_lsn history

  module _ (gates : ℕ → ℕ) (redo from : ℕ) where
    -- the block with the records of a history repeated
    abbrev again : History → B → B
    again history block = redone version after gates from history block

    -- nothing is due on a block whose version no LSN is above
    none_due : (history : History) (block : B) → IsInOrder history → newest_lsn history ≤ version block
        → again history block ≡ block
    none_due [] block ordered top = refl
    none_due (act ∷ before) block ordered top =
        let older : again before block ≡ block = none_due before block ordered.0 (omega (arith, ordered.1.above)) in
        let over : is_due gates from act (version (again before block)) ≡ false =
        not_due gates from act (version (again before block)) (omega (arith, ap version older, top)) in
        ap (λ (b : Bool). cond b (after act (again before block)) (again before block)) over ∙ older

    module _ (is_redo : IsRedo) (le : from ≤ redo) where
      -- one record more, above the version: it is repeated, or it is not on the block
      one_more : (act : Act) (before : History) (older : B) (test : Bool) → is_due gates from act (version older) ≡ test
          → version older < lsn_of act
          → (IsOnIt act → redo ≤ gates (lsn_of act)) → Is older before → Is (cond test (after act older) older) (act ∷ before)
      one_more act before older true is above late holds = is_redo.goes_on act before older holds
      one_more act before older false is above late holds =
          let off : IsOnIt act → ⊥ = λ on.
          let yes : is_due gates from act (version older) ≡ true = due gates from act (version older) (omega (arith, late on)) above in
          cc in
          is_redo.stays act before older off holds

      -- so a block that stands for a history is brought up to it
      brought_up : (history : History) (block : B) → IsInOrder history
          → Stands (Is block) IsOnIt gates (version block) redo history → Is (again history block) history
      brought_up [] block ordered stands = stands
      brought_up (act ∷ before) block ordered stands = elim (cases_lt (version block) (lsn_of act)) [
        | inl above ↦
            let rest = stands.1 above in
            let older : Is (again before block) before = brought_up before block ordered.0 rest.1 in
            one_more act before (again before block) (is_due gates from act (version (again before block))) refl
            (omega (arith, is_redo.within before (again before block) ordered.0 older, ordered.1.above)) rest.0 older
        | inr has ↦
            subst (λ (b : B). Is b (act ∷ before)) (sym (none_due (act ∷ before) block ordered has)) (stands.0 has)
      ]

-- ---- the block of a page

module _ (page : ℕ) where
  -- the block holds what the history says of the page
  abbrev pub IsPage : PageBlock → History → Type 0
  IsPage block history = HoldsPage page block.version block.slots history

  page_goes_on : (act : Act) (before : History) (block : PageBlock) → IsPage block before
      → IsPage (repeated page act block) (act ∷ before)
  page_goes_on act before block is = (ap (version_after act page) is.0, ap (page_after act page) is.1)

  -- redo may stand on that
  pub page_redo : IsRedo PageBlock (λ b. b.version) (repeated page) IsPage (IsOnPage page)
  page_redo = record {
    goes_on = page_goes_on;
    stays = λ act before block off is. (is.0 ∙ sym (version_off page act before off), is.1 ∙ sym (page_off page act before off));
    within = λ history block ordered is. omega (arith, is.0, version_within page history ordered);
  }

-- redo brings pages up
pub redo_brings_pages_up : RedoBringsPagesUp
redo_brings_pages_up gates history page version slots redo from ordered le stands =
    let up = brought_up PageBlock (λ b. b.version) (repeated page) (IsPage page) (IsOnPage page) gates redo from (page_redo page) le
    history (record { version = version; slots = slots }) ordered stands in
    λ i. record { version = up.0 i; slots = up.1 i }

-- ---- a block of the inventory

module _ (number : ℕ) where
  -- the block holds what the history says of its pages
  abbrev pub AreEntries : EntriesBlock → History → Type 0
  AreEntries block history = HoldsEntries number block.version block.entries history

  entries_go_on : (act : Act) (before : History) (block : EntriesBlock)
      → AreEntries block before → AreEntries (entry_repeated number act block) (act ∷ before)
  entries_go_on act before block is =
      (ap (block_version_after act number) is.0, λ index inside. ap (entry_after act (BLOCK_PAGES * number + index)) (is.1 index inside))

  -- redo may stand on that
  pub entries_redo : IsRedo EntriesBlock (λ b. b.version) (entry_repeated number) AreEntries (IsInBlock number)
  entries_redo = record {
    goes_on = entries_go_on;
    stays = λ act before block off is. (
      is.0 ∙ sym (block_version_off number act before off),
      λ index inside. is.1 index inside ∙ sym (entry_off number act before off index inside),
    );
    within = λ history block ordered is. omega (arith, is.0, block_version_within number history ordered);
  }

-- redo brings blocks of the inventory up
pub redo_brings_entries_up : RedoBringsEntriesUp
redo_brings_entries_up gates history number version entries redo from ordered le stands =
    let up = brought_up EntriesBlock (λ b. b.version) (entry_repeated number) (AreEntries number) (IsInBlock number) gates redo from
    (entries_redo number) le history (record { version = version; entries = entries }) ordered stands in
    record { version_is = up.0; entries_are = up.1 }
