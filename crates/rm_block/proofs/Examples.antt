-- The definitions of blocks, on examples.
use Rattle.std.proofs.Common.{◌≡◌, ℕ, ◌==◌, if◌then◌else◌, lit<, List, [], ◌∷◌, inl, inr, refl, arith, lit≤}
use Rattle.rm_types.specs.declared.formats.Format.{Format}
use Rattle.rm_types.specs.declared.formats.Format.TheVariants.{One}
use Rattle.rm_types.specs.declared.slots.Slot.TheVariants.{Vacant, Row}
use Rattle.rm_block.specs.Blocks.{entry_in, IsRowAt, AreApart, IsDataBlock, IsInventoryBlock, IsSpacePlace}

abbrev row : List ℕ
row = 97 ∷ []

-- a row that ends where its block does, and one byte further
ends_there : IsRowAt 1 4095 row
ends_there = record { after = lit≤ tt; short = lit≤ tt; inside = lit≤ tt }

too_far : IsRowAt 1 4096 row → ⊥
too_far at = omega (arith, at.inside)

-- and one that lies in the directory
in_directory : IsRowAt 1 19 row → ⊥
in_directory at = omega (arith, at.after)

-- rows beside each other are apart, and rows of no bytes are anywhere
beside : AreApart 100 (Row row) 101 (Row row)
beside = inr (inr (inl (lit≤ tt)))

empty : AreApart 100 (Row row) 100 (Row [])
empty = inr (inl refl)

-- a row of two bytes and one that begins at its second byte are not
overlapping : AreApart 100 (Row (97 ∷ 97 ∷ [])) 101 (Row row) → ⊥
overlapping (inl none) = omega (arith, none)
overlapping (inr (inl none)) = omega (arith, none)
overlapping (inr (inr (inl le))) = omega (arith, le)
overlapping (inr (inr (inr le))) = omega (arith, le)

-- nor the other way round
overlapping_second : AreApart 101 (Row row) 100 (Row (97 ∷ 97 ∷ [])) → ⊥
overlapping_second (inl none) = omega (arith, none)
overlapping_second (inr (inl none)) = omega (arith, none)
overlapping_second (inr (inr (inl le))) = omega (arith, le)
overlapping_second (inr (inr (inr le))) = omega (arith, le)

-- a slot without a row has no length: a block with a length of 1 there stands for no page with a vacant slot
has_length : (lsn : ℕ) → IsDataBlock (λ k. if k == 19 then 1 else 0) 0 lsn (Vacant ∷ []) → ⊥
has_length lsn is = omega (arith, (is.each 0 (lit< tt)).2.each 1 (lit< tt))

-- a block of ones is of no format
of_no_format : (format : Format) (lsn : ℕ) (entries : ℕ → ℕ) → IsInventoryBlock format (λ k. 1) 0 lsn entries → ⊥
of_no_format One lsn entries is = omega (arith, is.form)

-- the four entries of a byte, the first in its lowest bits
four_entries : (entry_in One 228 0 ≡ 0) × (entry_in One 228 1 ≡ 1) × (entry_in One 228 2 ≡ 2) × (entry_in One 228 3 ≡ 3)
four_entries = (refl, refl, refl, refl)

-- a file of 1,025 pages has two blocks of the inventory, with the places 0 and 1
second_place : IsSpacePlace One 1025 1
second_place = record { block = 1; in_file = lit≤ tt; place = refl }

no_third : IsSpacePlace One 1025 2 → ⊥
no_third is = omega (arith, is.in_file, is.place)
