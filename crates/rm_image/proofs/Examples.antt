-- The definitions of redo, checkpoints and copies, on examples.
use Rattle.std.proofs.Common.{◌≡◌, ℕ, [], ◌∷◌, refl, arith, lit<, lit≤}
use Rattle.rm_types.specs.declared.slots.Slot.TheVariants.{Row}
use Rattle.rm_history.specs.Acts.{History, enters}
use Rattle.rm_image.specs.Standing.{StandsFor}
use Rattle.rm_image.specs.Checkpoints.{place_or, least_of}
use Rattle.rm_image.specs.Redo.{PageBlock, EntriesBlock, page_redone, entries_redone}
use Rattle.rm_image.specs.Copies.{copied_page, copied_block}
use Rattle.rm_image.proofs.ExampleLog.{row, committed}

-- the insert at LSN 5 and its commit at 29 stand in the batch with the gate 0
abbrev history : History
history = committed

abbrev gates : ℕ → ℕ
gates lsn = 0

-- a block of zeros lacks the insert, which its redo offset allows; after the batch it may lack no record
lacks_it : StandsFor gates history 0 0 [] 0
lacks_it =
    (λ le. absurd (omega (arith, le)), λ lt. (λ on. absurd on, (λ le. absurd (omega (arith, le)), λ more. (λ on. omega arith, (refl, refl)))))

may_not : StandsFor gates history 0 0 [] 34 → ⊥
may_not stands = omega (arith, ((stands.1 (lit< tt)).1.1 (lit< tt)).0 refl)

-- the block that has it may have any redo offset
has_it : StandsFor gates history 0 5 (Row row ∷ []) 34
has_it = (λ le. absurd (omega (arith, le)), λ lt. (λ on. absurd on, (λ le. (refl, refl), λ more. absurd (omega (arith, more)))))

-- a page without records is of version 0
other_page : StandsFor gates history 1 0 [] 34
other_page =
    (λ le. absurd (omega (arith, le)), λ lt. (λ on. absurd on, (λ le. absurd (omega (arith, le)), λ more. (λ on. absurd (omega (arith, on)), (refl, refl)))))

-- no block has the commit's LSN
not_of_commit : StandsFor gates history 0 29 (Row row ∷ []) 0 → ⊥
not_of_commit stands = omega (arith, (stands.0 (lit≤ tt)).0)

-- redo gives a block of zeros the insert, and leaves a block that has it; from the end of the batch on it repeats nothing
abbrev zeros : PageBlock
zeros = record { version = 0; slots = [] }

abbrev has_insert : PageBlock
has_insert = record { version = 5; slots = Row row ∷ [] }

repeats_it : page_redone gates 0 0 history zeros ≡ has_insert
repeats_it = refl

leaves_it : page_redone gates 0 0 history has_insert ≡ has_insert
leaves_it = refl

passes_over_it : page_redone gates 34 0 history zeros ≡ zeros
passes_over_it = refl

-- an entry of page 1 is set in block 0 alone
abbrev entered : History
entered = enters (record { lsn = 39; txn = 2; page = 1; category = 3 }) ∷ history

abbrev no_entries : EntriesBlock
no_entries = record { version = 0; entries = λ index. 0 }

sets_entry : ((entries_redone gates 0 0 entered no_entries).version ≡ 39) × ((entries_redone gates 0 0 entered no_entries).entries 1 ≡ 3)
    × ((entries_redone gates 0 0 entered no_entries).entries 0 ≡ 0) × ((entries_redone gates 0 1 entered no_entries).version ≡ 0)
sets_entry = (refl, refl, refl, refl)

-- a listed block has its own offset, any other that of the batch
listed : (place_or (record { number = 3; at = 10 } ∷ []) 3 99 ≡ 10) × (place_or (record { number = 3; at = 10 } ∷ []) 4 99 ≡ 99)
listed = (refl, refl)

-- the least offset
least : (least_of (record { number = 3; at = 40 } ∷ record { number = 5; at = 10 } ∷ []) 99 ≡ 10) × (least_of (record { number = 3; at = 120 } ∷ []) 99 ≡ 99)
least = (refl, refl)

-- where the halves of area Copy have their blocks
copies : (copied_page 1 7 ≡ 7) × (copied_page 2 7 ≡ 16407) × (copied_block 1 0 ≡ 16384) × (copied_block 2 15 ≡ 32799)
copies = (refl, refl, refl, refl)
