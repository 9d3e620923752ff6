-- A block that holds what a history says of it: what it lacks, said record by record and of a prefix of the history, is one.
use Rattle.std.proofs.Common.{◌↔◌, inl, inr, ℕ, ◌≤◌, ◌<◌, [], ◌∷◌, ◌++◌, refl, sym, ap, subst, arith}
use Rattle.std.proofs.lemmas.Bool.{cases_lt}
use Rattle.std.specs.List.{AllByRecursion}
use Rattle.rm_history.specs.Acts.{Act, History, lsn_of, newest_lsn}
use Rattle.rm_history.specs.Rules.{IsInOrder}
use Rattle.rm_image.specs.Standing.{Stands}
use Rattle.rm_image.specs.Laws.{Rise}
use Rattle.rm_image.specs.Prefixes.{Prefix}

-- What it is that a block holds where it has a history, and which records set something in it.
module _ (Holds : History → Type 0) (IsOn : Act → Type 0) (gates : ℕ → ℕ) (version redo : ℕ) where
  -- What all such blocks have: only records that are on it change what it holds, and its version is that of one of them.
  pub record IsBlock : Type 0 where
    pub stays : (act : Act) (before : History) → (IsOn act → ⊥) → Holds before → Holds (act ∷ before)
    pub was : (act : Act) (before : History) → (IsOn act → ⊥) → Holds (act ∷ before) → Holds before
    pub has : (act : Act) (before : History) → Holds (act ∷ before) → IsOn act → lsn_of act ≤ version
    pub within : (history : History) → IsInOrder history → Holds history → version ≤ newest_lsn history

  module _ (block : IsBlock) where
    -- where the newest record's gate is before the redo offset, the block holds the whole history
    early_is_held : Rise gates → (history : History) (newest : ℕ) → IsInOrder history → newest_lsn history ≤ newest
        → gates newest < redo
        → Stands Holds IsOn gates version redo history → Holds history
    early_is_held rise [] newest ordered top early stands = stands
    early_is_held rise (act ∷ before) newest ordered top early stands = elim (cases_lt version (lsn_of act)) [
      | inl above ↦
          let rest = stands.1 above in
          let off : IsOn act → ⊥ = λ on. omega (arith, rest.0 on, rise (lsn_of act) newest top) in
          block.stays act before off (early_is_held rise before newest ordered.0 (omega (arith, ordered.1.above)) early rest.1)
      | inr has ↦ stands.0 has
    ]

    -- the whole history is a prefix of it
    whole : (history : History) → Holds history → Prefix Holds gates redo history
    whole history holds = record { newer = []; before = history; split = refl; holds = holds; lacks_none = tt }

    -- so is what is before a record that the block may lack
    longer : (act : Act) (before : History) → redo ≤ gates (lsn_of act) → Prefix Holds gates redo before
        → Prefix Holds gates redo (act ∷ before)
    longer act before late prefix = record {
      newer = act ∷ prefix.newer;
      before = prefix.before;
      split = ap (λ (h : History). act ∷ h) prefix.split;
      holds = prefix.holds;
      lacks_none = (late, prefix.lacks_none);
    }

    -- record by record there is a prefix
    prefix_of : Rise gates → (history : History) → IsInOrder history → Stands Holds IsOn gates version redo history
        → Prefix Holds gates redo history
    prefix_of rise [] ordered stands = whole [] stands
    prefix_of rise (act ∷ before) ordered stands = elim (cases_lt version (lsn_of act)) [
      | inl above ↦ elim (cases_lt (gates (lsn_of act)) redo) [
        | inl early ↦ whole (act ∷ before) (early_is_held rise (act ∷ before) (lsn_of act) ordered (omega arith) early stands)
        | inr late ↦ longer act before late (prefix_of rise before ordered.0 (stands.1 above).1)
      ]
      | inr has ↦ whole (act ∷ before) (stands.0 has)
    ]

    -- a block that holds the whole history stands for it
    pub stands_whole : (history : History) → Holds history → Stands Holds IsOn gates version redo history
    stands_whole [] holds = holds
    stands_whole (act ∷ before) holds = (
      λ has. holds,
      λ above.
          let off : IsOn act → ⊥ = λ on. omega (arith, block.has act before holds on) in
          ((λ on. absurd (off on)), stands_whole before (block.was act before off holds)),
    )

    -- its version is not above the newest record
    version_within : (newer before : History) → IsInOrder (newer ++ before) → Holds before
        → version ≤ newest_lsn (newer ++ before)
    version_within [] before ordered holds = block.within before ordered holds
    version_within (act ∷ newer) before ordered holds =
        omega (arith, version_within newer before ordered.0 holds, ordered.1.above)

    -- with a prefix the block stands for the history
    stands_for_prefix : (newer before : History) → IsInOrder (newer ++ before) → Holds before
        → AllByRecursion (λ act. redo ≤ gates (lsn_of act)) newer
        → Stands Holds IsOn gates version redo (newer ++ before)
    stands_for_prefix [] before ordered holds none = stands_whole before holds
    stands_for_prefix (act ∷ newer) before ordered holds none = (
      λ has. absurd (omega (arith, version_within newer before ordered.0 holds, ordered.1.above)),
      λ above. ((λ on. none.0), stands_for_prefix newer before ordered.0 holds none.1),
    )

    -- both directions
    pub prefixes : Rise gates → (history : History) → IsInOrder history
        → Stands Holds IsOn gates version redo history ↔ Prefix Holds gates redo history
    prefixes rise history ordered = (
      prefix_of rise history ordered,
      λ prefix.
          let parts_ordered : IsInOrder (prefix.newer ++ prefix.before) = subst IsInOrder prefix.split ordered in
          subst (Stands Holds IsOn gates version redo) (sym prefix.split)
          (stands_for_prefix prefix.newer prefix.before parts_ordered prefix.holds prefix.lacks_none),
    )
