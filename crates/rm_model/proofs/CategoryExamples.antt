-- Categories of pages, and which pages are passed by, evaluated.
use Rattle.std.proofs.Common.{◌≡◌, ℕ, ◌<◌, [], ◌∷◌, replicate, refl, arith, lit<}
use Rattle.rm_types.specs.declared.formats.Format.TheVariants.{One}
use Rattle.rm_types.specs.declared.slots.Slot.{Slot}
use Rattle.rm_types.specs.declared.slots.Slot.TheVariants.{Row}
use Rattle.rm_model.specs.Pages.{used}
use Rattle.rm_model.specs.Categories.{category_of, IsExcluded}

-- a row of so many bytes
abbrev row : ℕ → Slot
row count = Row (replicate count 97)

-- 1,016 bytes of a row and an entry of the directory are 1,020 bytes in use
in_use : used (row 1016 ∷ []) ≡ 1020
in_use = refl

-- pages with 1,019, 1,020, 3,059, 3,060 and 4,080 bytes in use
categories : (category_of One (row 1015 ∷ []) ≡ 0) × (category_of One (row 1016 ∷ []) ≡ 1) × (category_of One (row 3055 ∷ []) ≡ 2)
    × (category_of One (row 3056 ∷ []) ≡ 3) × (category_of One (row 4076 ∷ []) ≡ 3)
categories = (refl, refl, refl, refl, refl)

-- a page with the entry 3 is looked at for a row of 1,020 bytes: 3,060 + 1,020 = 4,080
looked_at : IsExcluded One 3 1020 → ⊥
looked_at excluded = omega (arith, excluded)

-- and not for one byte more
passed_over : IsExcluded One 3 1021
passed_over = lit< tt
