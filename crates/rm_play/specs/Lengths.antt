-- How many turns an operation takes at the most.
use Rattle.std.specs.Prelude.{◌≡◌, ℕ, ◌+◌, ◌-◌, ◌*◌, ◌/◌, ◌≤◌, ◌<◌, nat_lt, if◌then◌else◌, max, List, [], ◌∷◌, length, ◌⊎◌}
use Rattle.rm_core.specs.Below.{BLOCK_PAGES, blocks_of, Change}
use Rattle.rm_core.specs.Below.{History, pending_of, Op}
use Rattle.rm_core.specs.Names.{Step, Move, turns, Moves, Machine, IsRun, moved, target_of, Stage, idle, seeks, wants, tries, reads, fetches, alters, sets}
use Rattle.rm_core.specs.Names.{settles, forces, finishes, rolls, prepares, compensates, Seat, State, seat_at, Turn}
use Rattle.rm_play.specs.Choices.{Takes, TakesAt}
use Rattle.rm_events.specs.declared.operations.Op.TheVariants as ops

-- how many pending changes are above the target
abbrev pub above : ℕ → List Change → ℕ
above target [] = 0
above target (newest ∷ before) = (if nat_lt target newest.lsn then 1 else 0) + above target before

-- the turns of a search from a page on: three for each page, and one for each block of the inventory
abbrev pub search_turns : ℕ → ℕ → ℕ
search_turns pages page = 3 * (pages - page) + (blocks_of pages - page / BLOCK_PAGES)

-- the most turns that the operation under way still takes, with these changes pending
abbrev pub left_at : ℕ → List Change → Stage → ℕ
left_at pages pending idle = 0
left_at pages pending (seeks row from) = search_turns pages from + 1
left_at pages pending (wants row on) = search_turns pages on
left_at pages pending (tries row on) = search_turns pages on - 1
left_at pages pending (reads rid) = 2
left_at pages pending (fetches rid) = 1
left_at pages pending (alters rid slot) = 3
left_at pages pending (sets rid slot) = 2
left_at pages pending (settles outcome page) = 1
left_at pages pending forces = 2
left_at pages pending finishes = 1
left_at pages pending (rolls aim) = 3 * above (target_of aim) pending + 1
left_at pages pending (prepares aim page) = 3 * above (target_of aim) pending
left_at pages pending (compensates aim page) = 3 * above (target_of aim) pending - 1

abbrev pub turns_left : ℕ → History → Seat → ℕ
turns_left pages history seat = left_at pages (pending_of history seat.txn) seat.stage

-- the most turns of an operation that begins with these changes pending; one whose lock is refused may undo them
abbrev pub most_turns : ℕ → List Change → Op → ℕ
most_turns pages pending (ops.Insert row) = 3 * pages + blocks_of pages + 1
most_turns pages pending (ops.Read rid) = max 3 (3 * length pending + 2)
most_turns pages pending (ops.Update rid row) = max 4 (3 * length pending + 2)
most_turns pages pending (ops.Delete rid) = max 4 (3 * length pending + 2)
most_turns pages pending (ops.Back number) = 3 * length pending + 2
most_turns pages pending ops.Commit = 3
most_turns pages pending ops.Abort = 3 * length pending + 2
most_turns pages pending op = 1

-- a turn leaves fewer turns than before; that with which an operation begins leaves those of the operation but itself
pub record ComesNearer (pages : ℕ) (old new : State) (k : ℕ) (op : Op) : Type 0 where
  pub busy : ((seat_at old.seats k).stage ≡ idle → ⊥) → turns_left pages new.history (seat_at new.seats k) < turns_left pages old.history (seat_at old.seats k)
  pub begins : (seat_at old.seats k).stage ≡ idle
      → turns_left pages new.history (seat_at new.seats k) + 1 ≤ most_turns pages (pending_of old.history (seat_at old.seats k).txn) op

abbrev pub TurnsComeNearer : Type 0
TurnsComeNearer = (m : Machine) (k : ℕ) (op : Op) (turn : Turn) (new : State) → IsRun m → Step m.opening.setting.format m.opening.setting.pages m.state k turn new
    → TakesAt (seat_at m.state.seats k).stage turn op → ComesNearer m.opening.setting.pages m.state new k op

-- ---- over many moves

-- what a move makes of the number of the session's turns in the operation under way
abbrev pub Adds : ℕ → State → Move → ℕ → ℕ → Type 0
Adds k s (turns j turn) before n = ((j ≡ k) × ((seat_at s.seats k).stage ≡ idle → ⊥) × (n ≡ before + 1)) ⊎ ((j ≡ k → ⊥) × (n ≡ before))
Adds k s move before n = n ≡ before

-- moves of all, the newest first, in which the session makes n turns of the operation under way
abbrev pub Makes : ℕ → Machine → List Move → ℕ → Machine → Type 0
Makes k old [] n new = (n ≡ 0) × (new ≡ old)
Makes k old (newest ∷ moves) n new =
    (mid : Machine) × (before : ℕ) × (state : State) × Makes k old moves before mid × Moves mid.opening.setting mid.state newest state × Adds k mid.state newest before n
    × (new ≡ moved mid newest state)

-- An operation ends: after its first turn the turns that the session makes, and those that are left then, are at most those of the operation but one.
-- A turn that waits for a lock leaves the session idle: it is a first turn each time.
abbrev pub OperationsEnd : Type 0
OperationsEnd = (m new : Machine) (state : State) (k n : ℕ) (op : Op) (turn : Turn) (moves : List Move) → IsRun m → (seat_at m.state.seats k).stage ≡ idle → Takes turn op
    → Moves m.opening.setting m.state (turns k turn) state → Makes k (moved m (turns k turn) state) moves n new
    → n + turns_left m.opening.setting.pages new.state.history (seat_at new.state.seats k) + 1
    ≤ most_turns m.opening.setting.pages (pending_of m.state.history (seat_at m.state.seats k).txn) op
