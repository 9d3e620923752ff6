-- The names of the machine, in one place for its proofs and for the crates that stand on it.
pub use Rattle.rm_core.specs.Sizes.{IsNext, end_of, change_record}
unfoldable pub use Rattle.rm_core.specs.Sizes.{size_of}
pub use Rattle.rm_core.specs.Outcomes.{committed, Outcome, began, inserted, no_space, saw, altered, missed, full, saved, no_save, back_to, skipped, refused}
pub use Rattle.rm_core.specs.Outcomes.{unbound, aborted, died, altering, asked, reply_of}
pub use Rattle.rm_core.specs.State.{Aim, undoes_all, returns, target_of, Savepoint, upto, Stage, idle, seeks, wants, tries, reads, fetches, alters, sets}
pub use Rattle.rm_core.specs.State.{settles, rolls, prepares, compensates, Seat, Grant, State, seat_at, finishes, empty_seat, dropped, forces, HasNumber}
pub use Rattle.rm_core.specs.State.{value_at}
pub use Rattle.rm_core.specs.Locks.{HasGrant, HoldsAlone, released, Latches, is_grant, has_it, joined, Blocks, Looks, IsInside, Asks}
pub use Rattle.rm_core.specs.Turns.{Turn, skip, unname, refuse, begin, scan, scan_last, latch, try, try_last, insert, lock, lock_alone, wait, die, fetch, miss}
pub use Rattle.rm_core.specs.Turns.{lack, alter, settled, settle, commit, force, finish, abort, prepared, prepare, compensate, end, save, no_target, target}
pub use Rattle.rm_core.specs.Turns.{back}
pub use Rattle.rm_core.specs.Effects.{effect, logging, change_of, staged, latched, after, goes_to, with_effect, Effect, save_of, entry_now, setting, with_grant}
pub use Rattle.rm_core.specs.Searching.{Scans, MayInsert, part_end, IsPassed, MayTry, IsHeld}
pub use Rattle.rm_core.specs.May.{IsSkipped, May, IsSeated, Wants, SlotFits, Step, MayAlter, MaySettle, MayPrepare, MayLatch, IsReading, IsBlockedBy}
pub use Rattle.rm_core.specs.Kept.{IsOver, Locked, Kept, Seated, Owes, Heads, Readies, HeadOn, IsRight, target_at}
pub use Rattle.rm_core.specs.Room.{HasRoomFor, bytes_for, claims_at, claim_of, owed, claims, HasRoom, CHANGE_BYTES, owed_by, CHANGE_COST}
pub use Rattle.rm_core.specs.Moves.{closed, Setting, again, log_full, spent, appended, MayRest, Move, turns, answered, appends, append_refused, rests, Moves}
pub use Rattle.rm_core.specs.Moves.{Lacks, IsRefused, MayAppend, Answer, IsBarredBy, IsSpent, Bars}
pub use Rattle.rm_core.specs.Events.{Event, event_of, outcome_of, txn_of, tried_of, seen_of}
pub use Rattle.rm_core.specs.Runs.{Machine, IsRun, Opening, IsOpening, opened, traced, moved, Runs, started}
pub use Rattle.rm_core.specs.Object.{Single, MayDo, does, single_after, Allowed, rows_through, AllAllowed}
pub use Rattle.rm_core.specs.Orders.{order_of, IsAmong, IsAcknowledged, onto, ops_of, ordered_with, commits_in}
pub use Rattle.rm_core.specs.Logging.{Writes, lsn_in, TellsChange, TellsLog}
pub use Rattle.rm_core.specs.Searches.{seens_of, EndsSearch, NoSpaceIsExact, ReadsAreExact, of_session, IsHandled}
pub use Rattle.rm_core.specs.Durable.{IsForcedFor, IsDurable, IsLogged}
pub use Rattle.rm_core.specs.Laws.{AcknowledgedIsDurable, RoomIsKept, MovesRun, RunsAreKept, RunsAreSerial, TracesTellLogs}
