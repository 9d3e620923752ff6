-- The definition of which slot a row is put in, on examples.
use Rattle.std.proofs.Common.{◌≡◌, ℕ, ◌<◌, [], ◌∷◌, refl, arith, lit<}
use Rattle.rm_types.specs.declared.slots.Slot.TheVariants.{Vacant}
use Rattle.rm_model.specs.Pages.{slot_at}
use Rattle.rm_history.specs.Contents.{page_of}
use Rattle.rm_history.specs.Room.{growth_for, IsSlotForRow}
use Rattle.rm_history.proofs.ExampleLogs.{row, deleted}

-- where slot 0 is held by the lock of its row's deleter, another's row is put in slot 1
beside_the_lock : IsSlotForRow (λ number. number ≡ 0) (page_of deleted 0) 1
beside_the_lock = record { vacant = refl; free = λ held. omega (arith, held); least = λ lower below vacant free. free (omega (arith, below)) }

-- and not in slot 0
under_the_lock : IsSlotForRow (λ number. number ≡ 0) (page_of deleted 0) 0 → ⊥
under_the_lock is = is.free refl

-- where no lock is held it is put in slot 0
in_place : IsSlotForRow (λ number. ⊥) (page_of deleted 0) 0
in_place = record { vacant = refl; free = λ held. held; least = λ lower below vacant free. omega (arith, below) }

-- and not further on
not_further_on : IsSlotForRow (λ number. ⊥) (page_of deleted 0) 1 → ⊥
not_further_on is = is.least 0 (lit< tt) refl (λ held. held)

-- no row is put where there is one
not_on_a_row : IsSlotForRow (λ number. ⊥) (row 1 ∷ []) 0 → ⊥
not_on_a_row is = let vacant : row 1 ≡ Vacant = is.vacant in absurd cc

-- where slot 0 has one, it is vacant under no number below 1
taken : (lower : ℕ) → lower < 1 → slot_at (row 1 ∷ []) lower ≡ Vacant → ⊥
taken lower below vacant =
    let first : lower ≡ 0 = omega (arith, below) in
    let held : row 1 ≡ Vacant = rw first at vacant in
    absurd cc

-- so it is put after it
after_a_row : IsSlotForRow (λ number. ⊥) (row 1 ∷ []) 1
after_a_row = record { vacant = refl; free = λ held. held; least = λ lower below vacant free. taken lower below vacant }

-- a directory grows by the entries up to the new slot's, and by none for a slot that it has
growths : (growth_for 1 1 ≡ 4) × (growth_for 1 3 ≡ 12) × (growth_for 2 0 ≡ 0)
growths = (refl, refl, refl)
