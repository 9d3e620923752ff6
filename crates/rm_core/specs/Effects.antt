-- What a turn leaves: at most one record, the locks, the session's seat, and the next id.
use Rattle.std.specs.Prelude.{ℕ, ◌+◌, Bool, true, false, List, [], ◌∷◌, Option, Some, None, slice_set}
use Rattle.rm_core.specs.Below.{Format, Rid, Slot, Vacant, Row, slot_at, category_of}
use Rattle.rm_core.specs.Below.{Act, Change, Entry, History, changes, undoes, enters, commits, ends, page_of, pending_of, last_of, need_of, entry_for, undo_for}
use Rattle.rm_core.specs.Locks.{joined, released}
use Rattle.rm_core.specs.Outcomes.{inserted, altered, died, aborted}
use Rattle.rm_core.specs.State.{Savepoint, dropped, upto, undoes_all, returns, Stage, idle, seeks, wants, tries, reads, fetches, alters, sets, settles, forces}
use Rattle.rm_core.specs.State.{finishes, rolls, prepares, compensates, Seat, empty_seat, Grant, State}
use Rattle.rm_core.specs.Turns.{Turn, skip, unname, refuse, begin, scan, scan_last, latch, try, try_last, insert, lock, lock_alone, wait, die, fetch, miss}
use Rattle.rm_core.specs.Turns.{lack, alter, settled, settle, commit, force, finish, abort, prepared, prepare, compensate, save, no_target, target, back, end}

-- the change record of a transaction that sets a slot
abbrev pub change_of : History → ℕ → Rid → Slot → Slot → ℕ → Change
change_of history txn rid before after lsn =
    record { lsn = lsn; txn = txn; under = last_of (pending_of history txn); rid = rid; need = need_of history txn rid.page; before = before; after = after }

-- the one that sets it from what it holds
abbrev pub setting : History → ℕ → Rid → Slot → ℕ → Change
setting history txn rid slot lsn = change_of history txn rid (slot_at (page_of history rid.page) rid.slot) slot lsn

-- the record of a page's entry, as the page is
abbrev pub entry_now : Format → History → ℕ → ℕ → ℕ → Entry
entry_now format history txn page lsn = record { lsn = lsn; txn = txn; page = page; category = category_of format (page_of history page) }

pub record Effect : Type 0 where
  pub logged : Option Act
  pub grants : List Grant
  pub seat : Seat
  pub next : ℕ

abbrev pub logging : Option Act → History → History
logging None history = history
logging (Some act) history = act ∷ history

abbrev pub with_effect : State → ℕ → Effect → State
with_effect s k e = record { history = logging e.logged s.history; grants = e.grants; seats = slice_set s.seats k e.seat; next = e.next }

-- nothing is logged, and the seat alone is another
abbrev pub goes_to : State → Seat → Effect
goes_to s seat = record { logged = None; grants = s.grants; seat = seat; next = s.next }

-- a record is logged
abbrev pub logs : State → Seat → Act → Effect
logs s seat act = record { logged = Some act; grants = s.grants; seat = seat; next = s.next }

-- the locks with one more
abbrev pub with_grant : State → ℕ → Rid → Bool → List Grant
with_grant s txn rid alone = joined s.grants (record { txn = txn; rid = rid; alone = alone })

-- a session at another stage
abbrev pub staged : Seat → Stage → Seat
staged seat stage = record seat { stage = stage }

-- the stage after a latch
abbrev pub latched : Stage → ℕ → Stage
latched (wants row on) page = tries row page
latched (reads rid) page = fetches rid
latched (alters rid slot) page = sets rid slot
latched (rolls aim) page = prepares aim page
latched other page = other

-- the stage after a scan
abbrev pub scanned : List ℕ → ℕ → Bool → Stage
scanned row to true = wants row to
scanned row to false = seeks row to

-- the savepoint that is set now
abbrev pub save_of : State → Seat → ℕ → Savepoint ℕ
save_of s seat number = record { number = number; value = last_of (pending_of s.history seat.txn) }

-- of a session at this seat
abbrev pub effect : Format → State → Seat → Turn → Effect
effect format s seat (skip op) = goes_to s seat
effect format s seat unname = goes_to s seat
effect format s seat (refuse op rid) = goes_to s seat
effect format s seat (begin txn) = record { logged = None; grants = s.grants; seat = record { txn = s.next; saves = []; stage = idle }; next = s.next + 1 }
effect format s seat (scan row from to found) = goes_to s (staged seat (scanned row to found))
effect format s seat (scan_last row from) = goes_to s (staged seat idle)
effect format s seat (latch page) = goes_to s (staged seat (latched seat.stage page))
effect format s seat (try row page slot) = goes_to s (staged seat (seeks row (page + 1)))
effect format s seat (try_last row page slot) = goes_to s (staged seat idle)
effect format s seat (insert row rid lsn) =
    record (logs s (staged seat (settles (inserted row rid) rid.page)) (changes (change_of s.history seat.txn rid Vacant (Row row) lsn))) { grants = with_grant s seat.txn rid true }
effect format s seat (lock rid) = record (goes_to s (staged seat (reads rid))) { grants = with_grant s seat.txn rid false }
effect format s seat (lock_alone rid slot) = record (goes_to s (staged seat (alters rid slot))) { grants = with_grant s seat.txn rid true }
effect format s seat (wait op rid alone holder) = goes_to s seat
effect format s seat (die op rid alone holder) = goes_to s (staged seat (rolls (undoes_all (died op holder))))
effect format s seat (fetch rid slot) = goes_to s (staged seat idle)
effect format s seat (miss rid slot) = goes_to s (staged seat idle)
effect format s seat (lack rid row room) = goes_to s (staged seat idle)
effect format s seat (alter rid slot lsn) = logs s (staged seat (settles (altered rid slot) rid.page)) (changes (setting s.history seat.txn rid slot lsn))
effect format s seat (settled outcome page) = goes_to s (staged seat idle)
effect format s seat (settle outcome page lsn) = logs s (staged seat idle) (enters (entry_now format s.history seat.txn page lsn))
effect format s seat (commit lsn) = logs s (staged seat forces) (commits (record { lsn = lsn; txn = seat.txn }))
effect format s seat (force durable) = goes_to s (staged seat finishes)
effect format s seat finish = record (goes_to s empty_seat) { grants = released s.grants seat.txn }
effect format s seat abort = goes_to s (staged seat (rolls (undoes_all aborted)))
effect format s seat (prepared aim last) = goes_to s (staged seat (compensates aim last.rid.page))
effect format s seat (prepare aim last lsn) = logs s (staged seat (compensates aim last.rid.page)) (enters (entry_for format lsn s.history last))
effect format s seat (compensate aim last lsn) = logs s (staged seat (rolls aim)) (undoes (undo_for lsn last))
effect format s seat (save number) = goes_to s (record seat { stage = idle; saves = save_of s seat number ∷ dropped seat.saves number })
effect format s seat (no_target number) = goes_to s (staged seat idle)
effect format s seat (target number lsn) = goes_to s (record seat { stage = rolls (returns number lsn); saves = upto seat.saves number })
effect format s seat (back number lsn) = goes_to s (staged seat idle)
effect format s seat (end outcome lsn) = record (logs s empty_seat (ends (record { lsn = lsn; txn = seat.txn }))) { grants = released s.grants seat.txn }

-- What a turn leaves, of a session at this seat.
abbrev pub after : Format → State → ℕ → Seat → Turn → State
after format s k seat turn = with_effect s k (effect format s seat turn)
