-- The numbers of log room: what a transaction owes, and what a turn costs.
use Rattle.std.specs.Prelude.{◌≡◌, ℕ, ◌++◌, ◌+◌, ◌-◌, ◌*◌, ◌^◌, ◌≤◌, ◌<◌, nat_lt, if◌then◌else◌, true, false, [], length}
use Rattle.rm_types.specs.declared.numbers.TxnId.{TxnId}
use Rattle.rm_types.specs.declared.numbers.TheConstants.{MAX_PAGES, MAX_LOG, MAX_SLOT}
use Rattle.rm_types.specs.declared.numbers.Rid.{Rid}
use Rattle.rm_plain.specs.declared.lines.Line.{Line}
use Rattle.rm_plain.specs.declared.lines.Line.TheVariants as line
use Rattle.rm_history.specs.declared.TheConstants.{BATCH_HEADER}
use Rattle.rm_record.specs.declared.records.LogRecord.{LogRecord}
use Rattle.rm_record.specs.Records.{spelling}
use Rattle.rm_wal.specs.declared.log.TheConstants.{LONG_TAIL}
use Rattle.rm_wal.specs.Tails.{LogValue, end_of}
use Rattle.rm_session.specs.Session.{IsFirstWithRoom, Core}
use Rattle.rm_types.specs.declared.operations.Reply.{Reply}
use Rattle.rm_types.specs.declared.operations.Reply.TheVariants as reply
use Rattle.rm_engine.specs.declared.room.TheConstants.{OWED, CHANGE_COST, INSERT_SIZE, COMMIT_SIZE}

-- what a transaction with this many pending inserts owes
abbrev pub owed_by : ℕ → ℕ
owed_by inserts = OWED + OWED * inserts

-- what an insert of this many bytes costs
abbrev pub cost_of : ℕ → ℕ
cost_of len = INSERT_SIZE + len + CHANGE_COST

-- the log once a long tail is flushed
abbrev pub log_flushed : LogValue → LogValue
log_flushed log = if nat_lt LONG_TAIL (length log.tail) then record log { batch = end_of log; tail = [] } else log

-- How much of the log a session uses: where the batch that is being filled begins, how many bytes its records have,
-- and how many inserts its transaction has.
pub record Used : Type 0 where
  pub batch : ℕ
  pub tail : ℕ
  pub inserts : ℕ

-- what a session with this log and this many inserts uses
abbrev pub used_of : LogValue → ℕ → Used
used_of log inserts = record { batch = log.batch; tail = length log.tail; inserts = inserts }

-- the offset that the next record has
abbrev pub next_at : Used → ℕ
next_at used = used.batch + (BATCH_HEADER + used.tail)

-- what is used once a long tail is flushed
abbrev pub flushed : Used → Used
flushed used = if nat_lt LONG_TAIL used.tail then record used { batch = next_at used; tail = 0 } else used

-- with an insert's record for a row of this many bytes in the tail
abbrev pub with_insert : ℕ → Used → Used
with_insert len used = record used { tail = used.tail + (INSERT_SIZE + len); inserts = used.inserts + 1 }

-- with a commit's record, all of it flushed
abbrev pub with_commit : Used → Used
with_commit used = record used { batch = next_at used + COMMIT_SIZE; tail = 0 }

-- What is used after a line and its reply: a begin has no inserts yet, and where a record is logged a long tail is
-- flushed before.
abbrev pub used_after : Line → Reply → Used → Used
used_after line.Begin (reply.Began id) used = record used { inserts = 0 }
used_after (line.Insert name row) (reply.Inserted rid) used = with_insert (length row) (flushed used)
used_after line.Commit reply.Committed used = with_commit (flushed used)
used_after said told used = used

-- The file, the ids and the log have room for what the session's transaction still does.
pub record IsReady (core : Core) (log : LogValue) (inserts : ℕ) : Type 0 where
  pub pages : length core.pages ≤ MAX_PAGES
  pub first : 1 ≤ core.next
  pub ids : core.next ≤ 2 ^ 32
  pub limit : log.limit ≤ MAX_LOG
  pub began : core.active ≡ true → 1 < core.next
  pub room : core.active ≡ true → end_of log + (OWED + OWED * inserts) ≤ log.limit + BATCH_HEADER
  pub room_after : core.active ≡ true → 0 < length log.tail → end_of log + (OWED + OWED * inserts) ≤ log.limit

-- The line's turn has room in the log.
abbrev pub HasRoom : Core → LogValue → ℕ → Line → Type 0
HasRoom core log inserts line.Begin = core.active ≡ false → (core.next < 2 ^ 32) × (end_of log + OWED ≤ log.limit)
HasRoom core log inserts (line.Insert name row) = core.active ≡ true → (page : ℕ) → IsFirstWithRoom core.pages (length row) page
    → (end_of log + (cost_of (length row) + owed_by (inserts + 1)) ≤ log.limit) × (length log.tail ≤ LONG_TAIL)
HasRoom core log inserts (line.Read target) = Unit {0}
HasRoom core log inserts line.Commit = core.active ≡ true → length log.tail ≤ LONG_TAIL

-- a row of this many bytes has a place, and a transaction to put it there
abbrev pub HasPlace : Core → ℕ → Type 0
HasPlace core len = (core.active ≡ true) × ((page : ℕ) × IsFirstWithRoom core.pages len page)

-- With this limit the log has no room for the line's turn, and would end there.
abbrev pub LacksRoom : ℕ → Core → Used → Line → ℕ → Type 0
LacksRoom limit core used line.Begin end = (core.active ≡ false) × (core.next < 2 ^ 32) × (end ≡ next_at used) × (limit < end + OWED)
LacksRoom limit core used (line.Insert name row) end = HasPlace core (length row) × (end ≡ next_at (flushed used))
    × (limit < end + (cost_of (length row) + owed_by (used.inserts + 1)))
LacksRoom limit core used (line.Read target) end = ⊥
LacksRoom limit core used line.Commit end = ⊥

-- What making room for the line's turn makes of the log: a long tail is flushed where the turn logs a record.
abbrev pub MakesRoom : Core → Line → LogValue → LogValue → Type 0
MakesRoom core line.Begin old new = new ≡ old
MakesRoom core (line.Insert name row) old new = (HasPlace core (length row) → new ≡ log_flushed old) × ((HasPlace core (length row) → ⊥) → new ≡ old)
MakesRoom core (line.Read target) old new = new ≡ old
MakesRoom core line.Commit old new = (core.active ≡ true → new ≡ log_flushed old) × (core.active ≡ false → new ≡ old)

-- The line begins a transaction, and every id was given.
abbrev pub LacksIds : Core → Line → TxnId → Type 0
LacksIds core line.Begin last = (core.active ≡ false) × (core.next ≡ 2 ^ 32) × (last.0 + 1 ≡ 2 ^ 32)
LacksIds core (line.Insert name row) last = ⊥
LacksIds core (line.Read target) last = ⊥
LacksIds core line.Commit last = ⊥

-- The row id is a place of a file of the most pages.
pub record IsPlace (rid : Rid) : Type 0 where
  pub page : rid.page < MAX_PAGES
  pub slot : rid.slot ≤ MAX_SLOT

-- the transaction that the session has
abbrev pub txn_of_next : ℕ → TxnId
txn_of_next next = record { 0 = next - 1 }

-- the log with one record more in its tail
abbrev pub with_record : LogValue → LogRecord → LogValue
with_record log next = record log { tail = log.tail ++ spelling next }

-- the log whose tail was flushed
abbrev pub without_tail : LogValue → LogValue
without_tail log = record log { batch = end_of log; tail = [] }
