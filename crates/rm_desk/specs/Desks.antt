-- The sessions' part of the machine, and the tables that stand for it.
use Rattle.std.specs.Prelude.{◌≡◌, ℕ, ◌+◌, ◌<◌, ◌≤◌, nat_le, if◌then◌else◌, Bool, true, ◌⊎◌, List, [], ◌∷◌, map, length}
use Rattle.std.specs.Prelude.{slice_index_or, slice_set, Option, Some, None}
use Rattle.rm_types.specs.declared.numbers.TheConstants.{MAX_SESSIONS, MAX_PAGES, MAX_LOG}
use Rattle.rm_core.specs.Below.{Format, Rid, Slot, CAPACITY, used, set_slot, sum_below, Act, Change, History, Fits, undoes, need_of, others_need, pending_of, last_of}
use Rattle.rm_core.specs.Below.{page_of, undo_for, entry_for, enters, newest_lsn, Op}
use Rattle.rm_core.specs.Names as core
use Rattle.rm_core.specs.Names.{Seat, State, Grant, Setting, IsInside, dropped, upto, idle, rolls, returns, forces, seat_at, empty_seat, staged, bytes_for, owed_by}
use Rattle.rm_core.specs.Room.{TXN_BYTES}
use Rattle.rm_events.specs.declared.operations.Op.TheVariants.{Unbound}
use Rattle.rm_history.specs.Acts.{commits, ends}
use Rattle.rm_history.specs.Needs.{on_page, need_for}
use Rattle.rm_locks.specs.LockTable.{LockTable, IsReady}
use Rattle.rm_need.specs.Needs.{Reserved, need_in, HasEntry}
use Rattle.rm_ops.specs.declared.stages.Stage.{Stage}
use Rattle.rm_ops.specs.declared.stages.Stage.TheVariants.{Idle}
use Rattle.rm_ops.specs.Stages.{stage_with}
use Rattle.rm_ops.specs.Views.{View, seat_of, is_over, IsOfFile, turned}
use Rattle.rm_txns.specs.declared.savepoints.Savepoint.{Savepoint}
use Rattle.rm_txns.specs.declared.transaction.Txn.{Txn}
use Rattle.rm_txns.specs.Tables.{Table, txn_of, HaveOwnIds, owed_by as total_of}
use Rattle.rm_desk.specs.declared.stacks.PendingChange.{PendingChange}
use Rattle.rm_desk.specs.Stacks.{StackValue, stack_at, noted_of}

-- the history, the sessions and the next id: a state but for the locks
pub record Sessions : Type 0 where
  pub history : History
  pub seats : List Seat
  pub next : ℕ

abbrev pub state_of : Sessions → List Grant → State
state_of s grants = record { history = s.history; grants = grants; seats = s.seats; next = s.next }

-- what a desk stands for, and its entries of needs and of locks and its stacks, which say what there is room for
pub record DeskValue : Type 0 where
  pub view : View
  pub entries : Reserved
  pub locks : LockTable
  pub stacks : List StackValue

-- a change of the session's transaction in that slot takes no memory
pub record IsReadyFor (d : DeskValue) (k : ℕ) (rid : Rid) : Type 0 where
  pub need : HasEntry d.entries rid.page (seat_of d.view k).txn
  pub lock : IsReady d.locks (seat_of d.view k).txn rid
  pub stack : 1 ≤ (stack_at d.stacks k).room

-- The newest of the pending changes may be undone: its page has room for the row that it puts back, beside what all undo needs then.
-- In a log that is in order that is so.
abbrev pub undo_fits : History → List Change → Bool
undo_fits history [] = true
undo_fits history (last ∷ rest) =
    nat_le (used (set_slot (page_of history last.rid.page) last.rid.slot last.before) + others_need history last.txn last.rid.page + last.need) CAPACITY

-- ---- what turns leave

-- a session at another seat; at another stage
abbrev pub seated : Sessions → ℕ → Seat → Sessions
seated s k seat = record s { seats = slice_set s.seats k seat }

abbrev pub goes : Sessions → ℕ → core.Stage → Sessions
goes s k stage = seated s k (staged (seat_at s.seats k) stage)

-- after a session begins a transaction, with the next id
abbrev pub begun : Sessions → ℕ → Sessions
begun s k = record (seated s k (record { txn = s.next; saves = []; stage = idle })) { next = s.next + 1 }

-- after a record is logged: any; a commit; the end of a rollback; the undo of the newest pending change
abbrev pub logged : Sessions → Act → Sessions
logged s act = record s { history = act ∷ s.history }

abbrev pub committed : Sessions → ℕ → ℕ → Sessions
committed s k lsn = goes (logged s (commits (record { lsn = lsn; txn = (seat_at s.seats k).txn }))) k forces

abbrev pub ended : Sessions → ℕ → ℕ → Sessions
ended s k lsn = seated (logged s (ends (record { lsn = lsn; txn = (seat_at s.seats k).txn }))) k empty_seat

abbrev pub undone : Sessions → ℕ → core.Aim → ℕ → Slot → List Change → Sessions
undone s k aim lsn back [] = s
undone s k aim lsn back (last ∷ rest) = goes (logged s (undoes (undo_for lsn (record last { before = back })))) k (rolls aim)

-- the newest pending change is undone, and its slot holds this again
abbrev pub compensated_by : View → ℕ → core.Aim → ℕ → Slot → List Change → View
compensated_by v k aim lsn back [] = v
compensated_by v k aim lsn back (last ∷ rest) = turned v k (core.compensate aim (record last { before = back }) lsn)

-- before that its page's entry is logged
abbrev pub prepared : Format → Sessions → ℕ → core.Aim → ℕ → List Change → Sessions
prepared format s k aim lsn [] = s
prepared format s k aim lsn (last ∷ rest) = goes (logged s (enters (entry_for format lsn s.history last))) k (core.compensates aim last.rid.page)

-- after a savepoint is set; after the rollback to one begins
abbrev pub saved : Sessions → ℕ → ℕ → Sessions
saved s k number =
    let seat = seat_at s.seats k in
    seated s k (record seat { stage = idle; saves = record { number = number; value = last_of (pending_of s.history seat.txn) } ∷ dropped seat.saves number })

abbrev pub rewound : Sessions → ℕ → ℕ → ℕ → Sessions
rewound s k number at = let seat = seat_at s.seats k in seated s k (record seat { stage = rolls (returns number at); saves = upto seat.saves number })

-- ---- the tables

-- what the desk keeps
pub record Tables : Type 0 where
  pub table : Table
  pub needs : Reserved
  pub stages : List Stage
  pub ops : List Op
  pub stacks : List StackValue

abbrev pub stage_at : Tables → ℕ → core.Stage
stage_at t k = stage_with (slice_index_or t.ops k Unbound) (slice_index_or t.stages k Idle)

-- a session's savepoints, its seat and its pending changes, by its transaction and its stage
abbrev pub saves_of : List Savepoint → List (core.Savepoint ℕ)
saves_of saves = map (λ (s : Savepoint). record { number = s.number; value = s.at.0 }) saves

abbrev pub seat_from : Option Txn → core.Stage → Seat
seat_from None stage = record { txn = 0; saves = []; stage = stage }
seat_from (Some txn) stage = record { txn = txn.id.0; saves = saves_of txn.saves; stage = stage }

abbrev pub pending_by : History → Option Txn → List Change
pending_by history None = []
pending_by history (Some txn) = pending_of history txn.id.0

-- the transaction's undo place, what it owes, and whether it is over, are those of the history and the stage
pub record IsAccounted (history : History) (stage : core.Stage) (txn : Txn) : Type 0 where
  pub some : 1 ≤ txn.id.0
  pub undo : txn.undo.0 ≡ last_of (pending_of history txn.id.0)
  pub owed : txn.owed ≡ (if is_over stage then 0 else TXN_BYTES + bytes_for (pending_of history txn.id.0))
  pub over : txn.committed ≡ is_over stage

abbrev pub Accounts : History → core.Stage → Option Txn → Type 0
Accounts history stage None = Unit {0}
Accounts history stage (Some txn) = IsAccounted history stage txn

-- a session's seat is its transaction's, at this stage
pub record Sits (pages : ℕ) (history : History) (seat : Seat) (stage : core.Stage) (txn : Option Txn) (stack : List PendingChange) : Type 0 where
  pub seat_is : seat ≡ seat_from txn stage
  pub accounted : Accounts history stage txn
  pub stacked : stack ≡ map noted_of (pending_by history txn)
  pub of_file : IsOfFile pages stage

-- what all transactions owe the log
abbrev pub owed_in : Sessions → ℕ
owed_in s = sum_below (λ k. owed_by s.history (seat_at s.seats k)) (length s.seats)

-- one of the changes is on the page
abbrev pub IsOn : List Change → ℕ → Type 0
IsOn [] page = ⊥
IsOn (newest ∷ before) page = (newest.rid.page ≡ page) ⊎ IsOn before page

-- a pending change has the LSN and the need of those before it, and is in the file
pub record Goes (pages : ℕ) (newest : Change) (before : List Change) : Type 0 where
  pub under : newest.under ≡ last_of before
  pub falls : last_of before < newest.lsn
  pub need : newest.need ≡ need_for (on_page newest.rid.page before)
  pub inside : IsInside pages newest.rid

abbrev pub AreKept : ℕ → List Change → Type 0
AreKept pages [] = Unit {0}
AreKept pages (newest ∷ before) = Goes pages newest before × AreKept pages before

-- of a history, with this next id
pub record IsKept (pages next : ℕ) (history : History) : Type 0 where
  pub fits : Fits history
  pub chained : (txn : ℕ) → AreKept pages (pending_of history txn)
  pub below : (txn : ℕ) → last_of (pending_of history txn) ≤ newest_lsn history
  pub fresh : (txn : ℕ) → next ≤ txn → pending_of history txn ≡ []

-- The tables stand for the sessions.
pub record Stands (m : Setting) (t : Tables) (s : Sessions) : Type 0 where
  pub bounds : (m.pages ≤ MAX_PAGES) × (m.limit ≤ MAX_LOG)
  pub sized : length s.seats ≡ MAX_SESSIONS
  pub staged : (length t.stages ≡ MAX_SESSIONS) × (length t.ops ≡ MAX_SESSIONS)
  pub first : 1 ≤ t.table.next
  pub ids : HaveOwnIds t.table
  pub next : t.table.next ≡ s.next
  pub sits : (k : ℕ) → k < MAX_SESSIONS → Sits m.pages s.history (seat_at s.seats k) (stage_at t k) (txn_of t.table (k + 1)) (stack_at t.stacks k).changes
  pub owes : total_of t.table ≡ owed_in s
  pub needed : (page txn : ℕ) → need_in t.needs page txn ≡ need_of s.history txn page
  -- where a change is pending there is room for its transaction's need
  pub there : (page txn : ℕ) → IsOn (pending_of s.history txn) page → HasEntry t.needs page txn
  pub kept : IsKept m.pages s.next s.history
