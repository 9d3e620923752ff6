use Rattle.std.proofs.Common.{◌≡◌, ℕ, ◌≤◌, take, drop, ltb}
use Rattle.rm_memory.specs.Notes.{synced_in}
use Rattle.rm_memory.proofs.syncs.notes_to_sync.Given as goal

-- so it is of the notes so far
abbrev pub invariant-loop-index : goal.invariant-loop-index
invariant-loop-index l = record {
  short : l.end ≤ l.index;
  each : (from : ℕ) → synced_in (drop from (take l.index l.notes)) l.area ≡ ltb from l.end;
}
