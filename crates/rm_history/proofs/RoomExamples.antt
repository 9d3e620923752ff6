-- The definitions of which rows fit, on examples.
use Rattle.std.proofs.Common.{◌≡◌, refl, arith, lit≤}
use Rattle.rm_model.specs.Pages.{used}
use Rattle.rm_history.specs.Contents.{page_of}
use Rattle.rm_history.specs.Room.{RowFits, GrowthFits}
use Rattle.rm_history.proofs.ExampleLogs.{deleted, tight, inserted_and_deleted, pending, one_deleted}

-- ---- another's row, beside what the deleter of 4,000 bytes needs

-- a row of 72 bytes fits into a second slot: 4 + 4 + 72 + 4,000 = 4,080
another_fits : RowFits deleted 3 0 1 72
another_fits = lit≤ tt

-- one byte more does not
another_too_long : RowFits deleted 3 0 1 73 → ⊥
another_too_long fits = omega (arith, fits)

-- nor do the 72 bytes in a slot further on, for which the directory grows by two entries
another_too_far : RowFits deleted 3 0 2 72 → ⊥
another_too_far fits = omega (arith, fits)

-- into the vacant slot the directory need not grow for it
another_in_place : RowFits deleted 3 0 0 76
another_in_place = lit≤ tt

-- and there too one byte more does not fit
another_too_long_in_place : RowFits deleted 3 0 0 77 → ⊥
another_too_long_in_place fits = omega (arith, fits)

-- not even a row of no bytes fits where the need is the most of an undo: 3,980 + 4 + 100 = 4,084
no_row_fits : RowFits inserted_and_deleted 3 0 3 0 → ⊥
no_row_fits fits = omega (arith, fits)

-- ---- the deleter's own row

-- it may have the bytes that its undo needs,
own_fits : RowFits deleted 2 0 0 3000
own_fits = lit≤ tt

-- up to the whole page,
own_fits_at_most : RowFits deleted 2 0 0 4076
own_fits_at_most = lit≤ tt

-- and no byte more
own_too_long : RowFits deleted 2 0 0 4077 → ⊥
own_too_long fits = omega (arith, fits)

-- a short row in a second slot leaves them: 4 + 4 + 4,000 = 4,008
own_fits_beside : RowFits deleted 2 0 1 1
own_fits_beside = lit≤ tt

-- with 4,072 bytes to be given back a row of no bytes just fits into a second slot: 4 + 4 + 4,072 = 4,080
own_need_is_tight : RowFits tight 2 0 1 0
own_need_is_tight = lit≤ tt

-- and not into a third, beside which the undo would lack room
own_need_counts : RowFits tight 2 0 2 0 → ⊥
own_need_counts fits = omega (arith, fits)

-- ---- rows that grow

-- a page with 4,008 bytes in use has room for a growth of 72 bytes,
growth_fits : (used (page_of pending 0) ≡ 4008) × GrowthFits pending 1 0 72
growth_fits = (refl, lit≤ tt)

-- and for no byte more
growth_too_long : GrowthFits pending 1 0 73 → ⊥
growth_too_long fits = omega (arith, fits)

-- beside a deleter's need of 2,000 bytes another's row grows by what is left: 2,008 + 72 + 2,000 = 4,080
another_grows : (used (page_of one_deleted 0) ≡ 2008) × GrowthFits one_deleted 3 0 72
another_grows = (refl, lit≤ tt)

-- and by no byte more
another_grows_too_far : GrowthFits one_deleted 3 0 73 → ⊥
another_grows_too_far fits = omega (arith, fits)

-- the deleter's own row grows into that need, up to the whole page,
own_grows : GrowthFits one_deleted 2 0 2072
own_grows = lit≤ tt

-- and by no byte more
own_grows_too_far : GrowthFits one_deleted 2 0 2073 → ⊥
own_grows_too_far fits = omega (arith, fits)
