-- The moves of the machine: turns of sessions, turns of the background, and turns that are answered without being made.
use Rattle.std.specs.Prelude.{◌≡◌, ℕ, ◌+◌, ◌^◌, ◌<◌, ◌≤◌, ◌∷◌, length, ◌⊎◌}
use Rattle.rm_core.specs.Below.{Format, BATCH_HEADER, Listing, lists, marks, MayList, Actor, Flush, Clean}
use Rattle.rm_core.specs.Below.{Checkpoint, Copy, Seen}
use Rattle.rm_core.specs.Effects.{after, goes_to, staged, with_effect}
use Rattle.rm_core.specs.Locks.{Latches, Looks}
use Rattle.rm_core.specs.May.{IsSeated, IsReading, May, Step, Wants}
use Rattle.rm_core.specs.Room.{CHANGE_COST, HasRoomFor, owed}
use Rattle.rm_core.specs.Sizes.{end_of, IsNext}
use Rattle.rm_core.specs.State.{idle, State, seat_at}
use Rattle.rm_core.specs.Turns.{Turn, begin, insert, alter}
use Rattle.rm_events.specs.declared.events.Seen.TheVariants as sees

-- what does not change while the machine runs: the format, the number of pages, and the limit of the log
pub record Setting : Type 0 where
  pub format : Format
  pub pages : ℕ
  pub limit : ℕ

-- ---- turns that are not made

pub data Answer : Type 0 where
  -- that session has the latch
  again : ℕ → Answer
  -- the log has no room from this offset on
  log_full : ℕ → Answer
  -- the last id was given
  spent : ℕ → Answer

-- another session's latch on the page refuses the session's
abbrev pub Bars : State → ℕ → ℕ → ℕ → Type 0
Bars s k page other = (other ≡ k → ⊥)
    × (Latches (seat_at s.seats other).stage page ⊎ ((IsReading (seat_at s.seats k).stage → ⊥) × Looks (seat_at s.seats other).stage page))

-- the least such session
pub record IsBarredBy (s : State) (k by : ℕ) : Type 0 where
  pub page : ℕ
  pub wants_it : Wants s (seat_at s.seats k) (seat_at s.seats k).stage page
  pub bars : Bars s k page by
  pub least : (lower : ℕ) → lower < by → Bars s k page lower → ⊥

-- The rule of log room refuses the turn: at the offset of its record, or of the next one where it is a begin.
abbrev pub Lacks : ℕ → ℕ → Turn → State → Type 0
Lacks limit end (begin txn) new = limit < end + owed new
Lacks limit end (insert row rid lsn) new = (lsn ≡ end) × (limit < end_of new.history + CHANGE_COST + owed new)
Lacks limit end (alter rid slot lsn) new = (lsn ≡ end) × (limit < end_of new.history + CHANGE_COST + owed new)
Lacks limit end other new = ⊥

pub record IsRefused (m : Setting) (s : State) (k end : ℕ) : Type 0 where
  pub turn : Turn
  pub next : IsNext s.history end
  pub seated : IsSeated (seat_at s.seats k) turn
  pub may : May m.format m.pages s k (seat_at s.seats k) turn
  pub lacks : Lacks m.limit end turn (after m.format s k (seat_at s.seats k) turn)

-- a begin where no id is left
abbrev pub IsSpent : State → ℕ → Type 0
IsSpent s k = ((seat_at s.seats k).txn ≡ 0) × (s.next ≡ 2 ^ 32)

-- the operation is closed, and its latch is free
abbrev pub closed : State → ℕ → State
closed s k = with_effect s k (goes_to s (staged (seat_at s.seats k) idle))

-- when a session is answered so, and what that leaves
abbrev pub Answers : Setting → State → ℕ → Answer → State → Type 0
Answers m old k (again by) new = IsBarredBy old k by × (new ≡ old)
Answers m old k (log_full end) new = IsRefused m old k end × (new ≡ closed old k)
Answers m old k (spent last) new = IsSpent old k × (last + 1 ≡ old.next) × (new ≡ old)

-- ---- the background

-- a checkpoint's record
pub record MayAppend (s : State) (l : Listing) : Type 0 where
  pub placed : IsNext s.history l.lsn
  pub next_is : l.next ≡ s.next
  pub may_list : MayList s.history l

abbrev pub appended : State → Listing → State
appended s l = record s { history = marks (lists l) ∷ s.history }

-- it has room; it has none, and the checkpoint is closed
abbrev pub HasRoomToAppend : ℕ → State → Listing → Type 0
HasRoomToAppend limit s l = end_of (marks (lists l) ∷ s.history) + BATCH_HEADER + owed s ≤ limit

pub record IsAppendRefused (m : Setting) (s : State) (end : ℕ) : Type 0 where
  pub listing : Listing
  pub may : MayAppend s listing
  pub at : listing.lsn ≡ end
  pub lacks : m.limit < end_of (marks (lists listing) ∷ s.history) + BATCH_HEADER + owed s

-- the log is durable to this offset: to the end of its last record, or the header of the next batch further
abbrev pub IsForced : State → ℕ → Type 0
IsForced s durable = (end_of s.history ≤ durable) × (durable ≤ end_of s.history + BATCH_HEADER)

-- what the turns of the background may see that change nothing here
abbrev pub MayRest : State → Actor → Seen → Type 0
MayRest s Flush (sees.Force durable) = IsForced s durable
MayRest s Clean (sees.Clean block) = Unit {0}
MayRest s Checkpoint (sees.Sync area) = Unit {0}
MayRest s Checkpoint (sees.Force durable) = IsForced s durable
MayRest s Checkpoint sees.Point = Unit {0}
MayRest s Copy (sees.CopyStart start) = start ≤ end_of s.history
MayRest s Copy (sees.CopyBlock block) = Unit {0}
MayRest s Copy (sees.Force durable) = IsForced s durable
MayRest s Copy (sees.Sync area) = Unit {0}
MayRest s Copy (sees.CopyPoint half) = Unit {0}
MayRest s actor seen = ⊥

-- ---- moves

pub data Move : Type 0 where
  -- a session's turn; its answer without a turn
  turns : ℕ → Turn → Move
  answered : ℕ → Answer → Move
  -- a checkpoint's record; its answer where the log has no room; a turn of the background that changes nothing here
  appends : Listing → Move
  append_refused : ℕ → Move
  rests : Actor → Seen → Move

-- One move of the machine.
abbrev pub Moves : Setting → State → Move → State → Type 0
Moves m old (turns k turn) new = Step m.format m.pages old k turn new × HasRoomFor m.limit old turn new
Moves m old (answered k answer) new = (k < length old.seats) × Answers m old k answer new
Moves m old (appends l) new = MayAppend old l × HasRoomToAppend m.limit old l × (new ≡ appended old l)
Moves m old (append_refused end) new = IsAppendRefused m old end × (new ≡ old)
Moves m old (rests actor seen) new = MayRest old actor seen × (new ≡ old)
