-- The turns of a session, each with all that is free in it.
use Rattle.std.specs.Prelude.{ℕ, Bool, List}
use Rattle.rm_core.specs.Below.{Rid, Slot, Change, Op}
use Rattle.rm_core.specs.Outcomes.{Outcome}
use Rattle.rm_core.specs.State.{Aim}

pub data Turn : Type 0 where
  -- what is not done
  skip : Op → Turn
  unname : Turn
  refuse : Op → Rid → Turn
  begin : ℕ → Turn
  -- an insert: the row, the page from which on it scans, and the page that it comes to, found or not
  scan : List ℕ → ℕ → ℕ → Bool → Turn
  scan_last : List ℕ → ℕ → Turn
  -- the latch on a page
  latch : ℕ → Turn
  -- a page that has no room for the row, and its slot
  try : List ℕ → ℕ → ℕ → Turn
  try_last : List ℕ → ℕ → ℕ → Turn
  insert : List ℕ → Rid → ℕ → Turn
  -- the lock of a read, and that of an update or delete
  lock : Rid → Turn
  lock_alone : Rid → Slot → Turn
  -- a lock, exclusive or not, that another transaction's refuses: the session tries again; it is rolled back
  wait : Op → Rid → Bool → ℕ → Turn
  die : Op → Rid → Bool → ℕ → Turn
  fetch : Rid → Slot → Turn
  -- an update or delete: there is no row; there is no room; the slot is set
  miss : Rid → Slot → Turn
  lack : Rid → List ℕ → ℕ → Turn
  alter : Rid → Slot → ℕ → Turn
  -- the page's entry: it is right; it is entered
  settled : Outcome → ℕ → Turn
  settle : Outcome → ℕ → ℕ → Turn
  commit : ℕ → Turn
  -- the log is durable to this offset
  force : ℕ → Turn
  finish : Turn
  abort : Turn
  -- the next change to be undone: the page's entry will be right; it is entered; the compensation
  prepared : Aim → Change → Turn
  prepare : Aim → Change → ℕ → Turn
  compensate : Aim → Change → ℕ → Turn
  -- a savepoint is set; it is not there; the rollback to it begins, with its LSN; and is done
  save : ℕ → Turn
  no_target : ℕ → Turn
  target : ℕ → ℕ → Turn
  back : ℕ → ℕ → Turn
  end : Outcome → ℕ → Turn
