-- What a turn's event tells.
use Rattle.std.specs.Prelude.{ℕ, suc, false, length, Option, Some, None}
use Rattle.rm_core.specs.Below.{Rid, used, page_of, need_of, others_need, Actor, Session, Seen}
use Rattle.rm_core.specs.Outcomes.{Outcome, began, no_space, saw, missed, full, saved, no_save, back_to, committed, skipped, refused, unbound}
use Rattle.rm_core.specs.State.{Seat, State, seat_at}
use Rattle.rm_core.specs.Turns.{Turn, skip, unname, refuse, begin, scan, scan_last, latch, try, try_last, insert, lock, lock_alone, wait, die, fetch, miss}
use Rattle.rm_core.specs.Turns.{lack, alter, settled, settle, commit, force, finish, abort, prepared, prepare, compensate, end, save, no_target, target, back}
use Rattle.rm_events.specs.declared.events.Seen.TheVariants as sees

pub record Event : Type 0 where
  pub actor : Actor
  pub txn : ℕ
  pub seen : Seen
  pub done : Option Outcome

-- ---- the event of a turn

abbrev pub tried_of : State → Seat → ℕ → ℕ → Seen
tried_of s seat page number = sees.Tried page (used (page_of s.history page)) (others_need s.history seat.txn page) (need_of s.history seat.txn page) (length (page_of s.history page)) number

abbrev pub full_of : State → Seat → Rid → Seen
full_of s seat rid = sees.Full rid (used (page_of s.history rid.page)) (others_need s.history seat.txn rid.page) (need_of s.history seat.txn rid.page)

-- what it saw
abbrev pub seen_of : ℕ → State → Seat → Turn → Seen
seen_of pages s seat (skip op) = sees.Skip
seen_of pages s seat unname = sees.Unbound
seen_of pages s seat (refuse op rid) = sees.BadRid
seen_of pages s seat (begin txn) = sees.Begin
seen_of pages s seat (scan row from to found) = sees.Scan from to found
seen_of pages s seat (scan_last row from) = sees.Scan from pages false
seen_of pages s seat (latch page) = sees.Latch page
seen_of pages s seat (try row page number) = tried_of s seat page number
seen_of pages s seat (try_last row page number) = tried_of s seat page number
seen_of pages s seat (insert row rid lsn) = sees.Change rid lsn
seen_of pages s seat (lock rid) = sees.Lock rid
seen_of pages s seat (lock_alone rid new) = sees.Lock rid
seen_of pages s seat (wait op rid alone holder) = sees.Waits rid (record { 0 = holder })
seen_of pages s seat (die op rid alone holder) = sees.Die rid (record { 0 = holder })
seen_of pages s seat (fetch rid held) = sees.Fetch rid
seen_of pages s seat (miss rid new) = sees.Absent rid
seen_of pages s seat (lack rid row room) = full_of s seat rid
seen_of pages s seat (alter rid new lsn) = sees.Change rid lsn
seen_of pages s seat (settled outcome page) = sees.Settle page 0
seen_of pages s seat (settle outcome page lsn) = sees.Settle page lsn
seen_of pages s seat (commit lsn) = sees.Commit lsn
seen_of pages s seat (force durable) = sees.Force durable
seen_of pages s seat finish = sees.Finish
seen_of pages s seat abort = sees.Abort
seen_of pages s seat (prepared aim last) = sees.Settle last.rid.page 0
seen_of pages s seat (prepare aim last lsn) = sees.Settle last.rid.page lsn
seen_of pages s seat (compensate aim last lsn) = sees.Undo last.lsn lsn
seen_of pages s seat (end outcome lsn) = sees.End lsn
seen_of pages s seat (save number) = sees.Save
seen_of pages s seat (no_target number) = sees.NoTarget
seen_of pages s seat (target number lsn) = sees.Target lsn
seen_of pages s seat (back number lsn) = sees.Back

-- the operation that it finished
abbrev pub outcome_of : Turn → Option Outcome
outcome_of (skip op) = Some (skipped op)
outcome_of unname = Some unbound
outcome_of (refuse op rid) = Some (refused op)
outcome_of (begin txn) = Some (began txn)
outcome_of (scan_last row from) = Some (no_space row)
outcome_of (try_last row page number) = Some (no_space row)
outcome_of (fetch rid held) = Some (saw rid held)
outcome_of (miss rid new) = Some (missed rid new)
outcome_of (lack rid row room) = Some (full rid row room)
outcome_of (settled outcome page) = Some outcome
outcome_of (settle outcome page lsn) = Some outcome
outcome_of finish = Some committed
outcome_of (end outcome lsn) = Some outcome
outcome_of (save number) = Some (saved number)
outcome_of (no_target number) = Some (no_save number)
outcome_of (back number lsn) = Some (back_to number)
outcome_of other = None

-- its transaction, also in its begin
abbrev pub txn_of : Seat → Turn → ℕ
txn_of seat (begin txn) = txn
txn_of seat other = seat.txn

abbrev pub event_of : ℕ → State → ℕ → Turn → Event
event_of pages s k turn = record { actor = Session (suc k); txn = txn_of (seat_at s.seats k) turn; seen = seen_of pages s (seat_at s.seats k) turn; done = outcome_of turn }
