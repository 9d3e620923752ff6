-- What holds of all records.
use Rattle.std.specs.Prelude.{◌≡◌, ℕ, ◌≤◌, List, ◌++◌, length}
use Rattle.rm_types.specs.declared.formats.Format.{Format}
use Rattle.rm_types.specs.Formats.{greatest_category}
use Rattle.rm_record.specs.declared.records.LogRecord.{LogRecord}
use Rattle.rm_record.specs.declared.records.TheConstants.{MIN_RECORD, MAX_RECORD, MAX_RECORDED_CATEGORY}
use Rattle.rm_record.specs.Records.{IsRecord, spelling}

-- no spelling begins another
abbrev pub SpellingsAreApart : Type 0
SpellingsAreApart = (a b : LogRecord) (x y : List ℕ) → IsRecord a → IsRecord b → spelling a ++ x ≡ spelling b ++ y → (a ≡ b) × (x ≡ y)

-- each format's categories are in a record's range
abbrev pub CategoriesAreRecorded : Type 0
CategoriesAreRecorded = (format : Format) → greatest_category format ≤ MAX_RECORDED_CATEGORY

-- the fewest and the most bytes of a record
abbrev pub SpellingsAreShort : Type 0
SpellingsAreShort = (logged : LogRecord) → IsRecord logged → (MIN_RECORD ≤ length (spelling logged)) × (length (spelling logged) ≤ MAX_RECORD)
