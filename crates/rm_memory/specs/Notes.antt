-- The notes of a volume in memory, oldest first, and the events that they stand for, newest first.
use Rattle.std.specs.Prelude.{ℕ, ◌+◌, Bool, List, [], ◌∷◌, take, drop}
use Rattle.rm_types.specs.declared.areas.Area.{Area}
use Rattle.rm_memory.specs.declared.notes.Note.{Note}
use Rattle.rm_memory.specs.declared.notes.Note.TheVariants.{Wrote, Synced}
use Rattle.rm_outside.specs.History.{Event, Write, Sync}
use Rattle.rm_memory.specs.Crashes.{none, with_area}

-- The events of these notes, put before others. The bytes of the writes stand one after another.
unfoldable pub events_onto : List Event → List Note → List ℕ → List Event
events_onto done [] bytes = done
events_onto done (Wrote put ∷ notes) bytes = events_onto (Write put.area put.at (take put.len bytes) put.took ∷ done) notes (drop put.len bytes)
events_onto done (Synced area ∷ notes) bytes = events_onto (Sync area ∷ done) notes bytes

-- the events of these notes
abbrev pub history : List Note → List ℕ → List Event
history notes bytes = events_onto [] notes bytes

-- how many bytes the noted writes have together
unfoldable pub total : List Note → ℕ
total [] = 0
total (Wrote put ∷ notes) = put.len + total notes
total (Synced area ∷ notes) = total notes

-- the areas of which a sync is among these notes
unfoldable pub synced_in : List Note → Area → Bool
synced_in [] = none
synced_in (Wrote put ∷ notes) = synced_in notes
synced_in (Synced area ∷ notes) = with_area (synced_in notes) area
