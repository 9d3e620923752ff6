-- Which turns a session may make, and one step of the machine.
use Rattle.std.specs.Prelude.{◌≡◌, ℕ, ◌+◌, ◌-◌, ◌^◌, ◌<◌, ◌≤◌, Bool, List, [], ◌∷◌, length}
use Rattle.rm_core.specs.Below.{Format, Rid, Slot, Vacant, Row, slot_at, category_of}
use Rattle.rm_core.specs.Below.{BATCH_HEADER, Change, History, page_of, entry_of, pending_of, unreserved, GrowthFits, category_after, Op}
use Rattle.rm_core.specs.Effects.{after}
use Rattle.rm_core.specs.Locks.{HasGrant, HoldsAlone, Blocks, IsInside, Asks, Latches, Looks}
use Rattle.rm_core.specs.Outcomes.{Outcome}
use Rattle.rm_core.specs.Searching.{MayScan, MayEndScan, MayTry, MayInsert}
use Rattle.rm_core.specs.Sizes.{end_of, IsNext}
use Rattle.rm_core.specs.State.{HasNumber, value_at, Aim, undoes_all, returns, target_of, Stage, idle, wants, reads, fetches, alters, sets, settles, forces}
use Rattle.rm_core.specs.State.{finishes, rolls, prepares, compensates, Seat, State, seat_at}
use Rattle.rm_core.specs.Turns.{Turn, skip, unname, refuse, begin, scan, scan_last, latch, try, try_last, insert, lock, lock_alone, wait, die, fetch, miss}
use Rattle.rm_core.specs.Turns.{lack, alter, settled, settle, commit, force, finish, abort, prepared, prepare, compensate, save, no_target, target, back, end}
use Rattle.rm_events.specs.declared.operations.Op.TheVariants as ops

-- ---- latches

-- the page whose latch the session wants: in a rollback that of the last pending change, while its LSN is above the target
abbrev pub Wants : State → Seat → Stage → ℕ → Type 0
Wants s seat (wants row on) page = on ≡ page
Wants s seat (reads rid) page = rid.page ≡ page
Wants s seat (alters rid slot) page = rid.page ≡ page
Wants s seat (rolls aim) page = (last : Change) × (rest : List Change) × (pending_of s.history seat.txn ≡ last ∷ rest) × (last.rid.page ≡ page) × (target_of aim < last.lsn)
Wants s seat other page = ⊥

-- the stage takes its page shared
abbrev pub IsReading : Stage → Type 0
IsReading (reads rid) = Unit {0}
IsReading other = ⊥

-- no other session has a latch on the page that is incompatible
pub record MayLatch (s : State) (k : ℕ) (seat : Seat) (page : ℕ) : Type 0 where
  pub wants_it : Wants s seat seat.stage page
  pub free : (j : ℕ) → (j ≡ k → ⊥) → Latches (seat_at s.seats j).stage page → ⊥
  pub looked : (j : ℕ) → (j ≡ k → ⊥) → (IsReading seat.stage → ⊥) → Looks (seat_at s.seats j).stage page → ⊥

-- ---- locks

-- the least transaction that keeps the lock off
pub record IsBlockedBy (s : State) (seat : Seat) (rid : Rid) (alone : Bool) (holder : ℕ) : Type 0 where
  pub at : seat.stage ≡ idle
  pub other : holder ≡ seat.txn → ⊥
  pub blocks : Blocks s.grants holder rid alone
  pub least : (lower : ℕ) → lower < holder → (lower ≡ seat.txn → ⊥) → Blocks s.grants lower rid alone → ⊥

pub record MayLock (pages : ℕ) (s : State) (seat : Seat) (rid : Rid) : Type 0 where
  pub at : seat.stage ≡ idle
  pub inside : IsInside pages rid
  pub free : (other : ℕ) → (other ≡ seat.txn → ⊥) → HoldsAlone s.grants other rid → ⊥

pub record MayLockAlone (pages : ℕ) (s : State) (seat : Seat) (rid : Rid) : Type 0 where
  pub at : seat.stage ≡ idle
  pub inside : IsInside pages rid
  pub free : (other : ℕ) → (other ≡ seat.txn → ⊥) → HasGrant s.grants other rid → ⊥

-- what an update or delete wants of the slot's row has room: a delete always has
abbrev pub SlotFits : History → ℕ → Rid → Slot → Slot → Type 0
SlotFits history txn rid Vacant after = ⊥
SlotFits history txn rid (Row old) Vacant = Unit {0}
SlotFits history txn rid (Row old) (Row new) = GrowthFits history txn rid.page (length new - length old)

pub record MayAlter (s : State) (seat : Seat) (rid : Rid) (slot : Slot) (lsn : ℕ) : Type 0 where
  pub at : seat.stage ≡ sets rid slot
  pub fits : SlotFits s.history seat.txn rid (slot_at (page_of s.history rid.page) rid.slot) slot
  pub placed : IsNext s.history lsn

pub record MaySettle (format : Format) (s : State) (seat : Seat) (outcome : Outcome) (page lsn : ℕ) : Type 0 where
  pub at : seat.stage ≡ settles outcome page
  pub wrong : entry_of s.history page ≡ category_of format (page_of s.history page) → ⊥
  pub placed : IsNext s.history lsn

-- the transaction's last pending change is the one to be undone
abbrev pub IsNextUndo : State → Seat → Change → Type 0
IsNextUndo s seat last = (rest : List Change) × (pending_of s.history seat.txn ≡ last ∷ rest)

pub record MayPrepare (format : Format) (s : State) (seat : Seat) (aim : Aim) (last : Change) (lsn : ℕ) : Type 0 where
  pub at : seat.stage ≡ prepares aim last.rid.page
  pub next : IsNextUndo s seat last
  pub wrong : entry_of s.history last.rid.page ≡ category_after format s.history last → ⊥
  pub placed : IsNext s.history lsn

-- an operation outside a transaction, or a begin in one
abbrev pub IsSkipped : Seat → Op → Type 0
IsSkipped seat ops.Begin = seat.txn ≡ 0 → ⊥
IsSkipped seat ops.Unbound = ⊥
IsSkipped seat other = seat.txn ≡ 0

-- Which turns a session at this seat may make.
abbrev pub May : Format → ℕ → State → ℕ → Seat → Turn → Type 0
May format pages s k seat (skip op) = (seat.stage ≡ idle) × IsSkipped seat op
May format pages s k seat unname = seat.stage ≡ idle
May format pages s k seat (refuse op rid) = (seat.stage ≡ idle) × ((alone : Bool) × Asks op rid alone) × (IsInside pages rid → ⊥)
May format pages s k seat (begin txn) = (seat.txn ≡ 0) × (txn ≡ s.next) × (s.next < 2 ^ 32)
May format pages s k seat (scan row from to found) = MayScan format pages s seat row from to found
May format pages s k seat (scan_last row from) = MayEndScan format pages s seat row from
May format pages s k seat (latch page) = MayLatch s k seat page
May format pages s k seat (try row page slot) = MayTry s seat row page slot × (page + 1 < pages)
May format pages s k seat (try_last row page slot) = MayTry s seat row page slot × (page + 1 ≡ pages)
May format pages s k seat (insert row rid lsn) = MayInsert s seat row rid lsn
May format pages s k seat (lock rid) = MayLock pages s seat rid
May format pages s k seat (lock_alone rid slot) = MayLockAlone pages s seat rid
May format pages s k seat (wait op rid alone holder) = IsBlockedBy s seat rid alone holder × (seat.txn < holder) × Asks op rid alone × IsInside pages rid
May format pages s k seat (die op rid alone holder) = IsBlockedBy s seat rid alone holder × (holder < seat.txn) × Asks op rid alone × IsInside pages rid
May format pages s k seat (fetch rid slot) = (seat.stage ≡ fetches rid) × (slot ≡ slot_at (page_of s.history rid.page) rid.slot)
May format pages s k seat (miss rid slot) = (seat.stage ≡ sets rid slot) × (slot_at (page_of s.history rid.page) rid.slot ≡ Vacant)
May format pages s k seat (lack rid row room) = (seat.stage ≡ sets rid (Row row)) × (slot_at (page_of s.history rid.page) rid.slot ≡ Vacant → ⊥) × (SlotFits s.history seat.txn rid (slot_at (page_of s.history rid.page) rid.slot) (Row row) → ⊥) × (room ≡ unreserved s.history seat.txn rid.page)
May format pages s k seat (alter rid slot lsn) = MayAlter s seat rid slot lsn
May format pages s k seat (settled outcome page) = (seat.stage ≡ settles outcome page) × (entry_of s.history page ≡ category_of format (page_of s.history page))
May format pages s k seat (settle outcome page lsn) = MaySettle format s seat outcome page lsn
May format pages s k seat (commit lsn) = (seat.stage ≡ idle) × IsNext s.history lsn
May format pages s k seat (force durable) = (seat.stage ≡ forces) × (end_of s.history ≤ durable) × (durable ≤ end_of s.history + BATCH_HEADER)
May format pages s k seat finish = seat.stage ≡ finishes
May format pages s k seat abort = seat.stage ≡ idle
May format pages s k seat (prepared aim last) = (seat.stage ≡ prepares aim last.rid.page) × IsNextUndo s seat last × (entry_of s.history last.rid.page ≡ category_after format s.history last)
May format pages s k seat (prepare aim last lsn) = MayPrepare format s seat aim last lsn
May format pages s k seat (compensate aim last lsn) = (seat.stage ≡ compensates aim last.rid.page) × IsNextUndo s seat last × IsNext s.history lsn × (target_of aim < last.lsn)
May format pages s k seat (end outcome lsn) = (seat.stage ≡ rolls (undoes_all outcome)) × (pending_of s.history seat.txn ≡ []) × IsNext s.history lsn
May format pages s k seat (save number) = seat.stage ≡ idle
May format pages s k seat (no_target number) = (seat.stage ≡ idle) × (HasNumber seat.saves number → ⊥)
May format pages s k seat (target number lsn) = (seat.stage ≡ idle) × HasNumber seat.saves number × (lsn ≡ value_at 0 seat.saves number)
May format pages s k seat (back number lsn) = (seat.stage ≡ rolls (returns number lsn)) × ((last : Change) (rest : List Change) → pending_of s.history seat.txn ≡ last ∷ rest → last.lsn ≤ lsn)

-- the turn is a begin, or the session has a transaction
abbrev pub IsSeated : Seat → Turn → Type 0
IsSeated seat (skip op) = Unit {0}
IsSeated seat unname = Unit {0}
IsSeated seat (begin txn) = Unit {0}
IsSeated seat other = seat.txn ≡ 0 → ⊥

-- One turn of the core: the session makes it from one state to the other.
pub record Step (format : Format) (pages : ℕ) (old : State) (k : ℕ) (turn : Turn) (new : State) : Type 0 where
  pub among : k < length old.seats
  pub seated : IsSeated (seat_at old.seats k) turn
  pub may : May format pages old k (seat_at old.seats k) turn
  pub new_is : new ≡ after format old k (seat_at old.seats k) turn
