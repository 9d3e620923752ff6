-- How long a record is.
use Rattle.std.proofs.Common.{◌≡◌, ℕ, ◌+◌, ◌-◌, ◌≤◌, List, ◌++◌, length, refl, arith, length-append}
use Rattle.std.specs.Prelude.{slice_index}
use Rattle.rm_types.specs.declared.numbers.TheConstants.{MAX_PAGES, MAX_BLOCKS}
use Rattle.rm_types.specs.declared.places.Place.{Place}
use Rattle.rm_types.specs.declared.rows.TheConstants.{MAX_ROW}
use Rattle.rm_types.specs.declared.slots.Slot.{Slot}
use Rattle.rm_types.specs.declared.slots.Slot.TheVariants as slot
use Rattle.rm_record.specs.declared.records.TheConstants.{MIN_RECORD, MAX_CHANGE, MAX_RECORD}
use Rattle.rm_record.specs.declared.records.LogRecord.{LogRecord}
use Rattle.rm_record.specs.declared.records.LogRecord.TheVariants as log
use Rattle.rm_record.specs.Places.{places_bytes}
use Rattle.rm_record.specs.Records.{IsSlot, IsCheckpoint, IsRecord, row_bytes, slot_bytes, spelling}
use Rattle.rm_record.proofs.PlaceLaws.{length-places, places_few}

slot_short : (back : Slot) → IsSlot back → (1 ≤ length (slot_bytes back)) × (length (slot_bytes back) ≤ 3 + MAX_ROW)
slot_short slot.Vacant is = (omega arith, omega arith)
slot_short (slot.Row row) is = (omega arith, omega (arith, is.short))

pub length-checkpoint : (next : ℕ) (losers pages blocks : List Place)
    → length (spelling (log.Checkpoint next losers pages blocks))
    ≡ 9 + (length (places_bytes losers) + (length (places_bytes pages) + length (places_bytes blocks)))
length-checkpoint next losers pages blocks =
    omega (arith, length-append (places_bytes losers) (places_bytes pages ++ places_bytes blocks), length-append (places_bytes pages) (places_bytes blocks))

pub checkpoint_short : (next : ℕ) (losers pages blocks : List Place) → IsCheckpoint next losers pages blocks
    → length (spelling (log.Checkpoint next losers pages blocks)) ≤ MAX_RECORD
checkpoint_short next losers pages blocks is =
    omega (
      arith,
      length-checkpoint next losers pages blocks,
      length-places losers,
      length-places pages,
      length-places blocks,
      is.losers_in.few,
      places_few (MAX_PAGES - 1) pages is.pages_in,
      places_few (MAX_BLOCKS - 1) blocks is.blocks_in,
    )

-- a record that is no checkpoint
pub change_short : (logged : LogRecord) → IsRecord logged → (slice_index (spelling logged) 0 ≡ 8 → ⊥) → length (spelling logged) ≤ MAX_CHANGE
change_short (log.Insert txn under rid need row) h other = omega (arith, h.1.short)
change_short (log.Delete txn under rid need row) h other = omega (arith, h.1.short)
change_short (log.Update txn under rid need before after) h other = omega (arith, h.1.0.short, h.1.1.short, length-append (row_bytes before) (row_bytes after))
change_short (log.Compensate txn undone next rid back) h other = omega (arith, slot_short back h.held)
change_short (log.Inventory txn page category) h other = omega arith
change_short (log.Commit txn) h other = omega arith
change_short (log.End txn) h other = omega arith
change_short (log.Checkpoint next losers pages blocks) h other = absurd (other refl)

pub spellings_are_short : (logged : LogRecord) → IsRecord logged → (MIN_RECORD ≤ length (spelling logged)) × (length (spelling logged) ≤ MAX_RECORD)
spellings_are_short (log.Insert txn under rid need row) h = (omega arith, omega (arith, h.1.short))
spellings_are_short (log.Delete txn under rid need row) h = (omega arith, omega (arith, h.1.short))
spellings_are_short (log.Update txn under rid need before after) h =
    (omega arith, omega (arith, h.1.0.short, h.1.1.short, length-append (row_bytes before) (row_bytes after)))
spellings_are_short (log.Compensate txn undone next rid back) h = (omega arith, omega (arith, slot_short back h.held))
spellings_are_short (log.Inventory txn page category) h = (omega arith, omega arith)
spellings_are_short (log.Commit txn) h = (omega arith, omega arith)
spellings_are_short (log.End txn) h = (omega arith, omega arith)
spellings_are_short (log.Checkpoint next losers pages blocks) h = (omega arith, checkpoint_short next losers pages blocks h)
