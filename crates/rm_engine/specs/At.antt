-- Where a session stands over a volume: what its log says, and what a crash may leave.
use Rattle.std.specs.Prelude.{◌≡◌, ℕ, ◌+◌, ◌-◌, ◌<◌, true, false, List, [], length, ◌⊎◌}
use Rattle.std.specs.List.{AllByRecursion}
use Rattle.rm_types.specs.declared.slots.Slot.{Slot}
use Rattle.rm_plain.specs.declared.lines.Line.{Line}
use Rattle.rm_plain.specs.declared.lines.Line.TheVariants as line
use Rattle.rm_types.specs.declared.operations.Reply.{Reply}
use Rattle.rm_types.specs.declared.operations.Reply.TheVariants as reply
use Rattle.rm_outside.specs.Images.{Image}
use Rattle.rm_model.specs.Object.{Rows}
use Rattle.rm_model.specs.Files.{page_at, rows_of, set_row}
use Rattle.rm_session.specs.Session.{IsPlaceFor, Core}
use Rattle.rm_record.specs.Records.{spelling_all, IsRecord}
use Rattle.rm_wal.specs.Tails.{LogValue}
use Rattle.rm_history.specs.declared.TheConstants.{BATCH_HEADER}
use Rattle.rm_history.specs.Logs.{Batch, gate_of}
use Rattle.rm_history.specs.Acts.{History}
use Rattle.rm_history.specs.Contents.{page_of}
use Rattle.rm_history.specs.Pending.{pending_of, last_of}
use Rattle.rm_history.specs.Transactions.{greatest_txn, IsFinished}
use Rattle.rm_history.specs.Rows.{applied, rows_of_log}
use Rattle.rm_history.specs.Counts.{commit_count}
use Rattle.rm_history.specs.Rules.{IsInOrder}
use Rattle.rm_history.specs.Batched.{acts_after, acts_of_batches, AreBelow}
use Rattle.rm_restart.specs.Plain.{ArePlain}
use Rattle.rm_restart.specs.Sound.{IsImageOf, IsSoundLog, Holds}

-- The session's transaction has that id and has not committed; nothing else is pending.
pub record IsOpen (history : History) (id : ℕ) (pages : List (List Slot)) (rows : Rows) (under inserts : ℕ) : Type 0 where
  pub unfinished : IsFinished history id → ⊥
  pub others : (other : ℕ) → (other ≡ id → ⊥) → pending_of history other ≡ []
  pub under_is : under ≡ last_of (pending_of history id)
  pub inserts_are : inserts ≡ length (pending_of history id)
  pub shown : rows_of pages ≡ applied rows (pending_of history id)

-- Nothing is pending, and the pages hold the rows.
pub record IsIdle (history : History) (pages : List (List Slot)) (rows : Rows) : Type 0 where
  pub none : (id : ℕ) → pending_of history id ≡ []
  pub shown : rows_of pages ≡ rows

-- The session's pages are those of the history, which is in order and plain, and has `count` commits and these rows.
pub record IsAtHistory (file_pages count : ℕ) (rows : Rows) (core : Core) (under inserts : ℕ) (history : History) : Type 0 where
  pub in_order : IsInOrder history
  pub plain : ArePlain history
  pub below : AreBelow file_pages history
  pub length_is : length core.pages ≡ file_pages
  pub pages_are : (page : ℕ) → page < file_pages → page_at core.pages page ≡ page_of history page
  pub ids : greatest_txn history < core.next
  pub commits_are : commit_count history ≡ count
  pub rows_are : rows_of_log history ≡ rows
  pub idle : core.active ≡ false → IsIdle history core.pages rows
  pub busy : core.active ≡ true → IsOpen history (core.next - 1) core.pages rows under inserts

-- the history of the batches that stand, and of the tail after them
abbrev pub whole_history : List Batch → Batch → History
whole_history batches tail = acts_after (acts_of_batches batches) (gate_of batches + BATCH_HEADER) tail

-- The session stands after `count` commits, which left these rows; each image that a crash may leave has them.
pub record IsAt (file_pages count : ℕ) (rows : Rows) (core : Core) (log : LogValue) (under inserts : ℕ) (left : Image → Type 0) : Type 0 where
  pub batches : List Batch
  pub tail : Batch
  pub batch_is : log.batch ≡ gate_of batches
  pub tail_is : log.tail ≡ spelling_all tail
  pub records : AllByRecursion IsRecord tail
  pub sound : IsSoundLog file_pages batches
  pub images : (c : Image) → left c → IsImageOf file_pages batches c
  pub commits_stand : commit_count (acts_of_batches batches) ≡ count
  pub rows_stand : rows_of_log (acts_of_batches batches) ≡ rows
  pub idle_tail : core.active ≡ false → tail ≡ []
  pub at_history : IsAtHistory file_pages count rows core under inserts (whole_history batches tail)

-- how many commits there are after a reply
abbrev pub count_after : Reply → ℕ → ℕ
count_after reply.Committed count = count + 1
count_after other count = count

-- the rows that are committed after a reply, where the pages hold these
abbrev pub committed_after : Reply → Rows → Rows → Rows
committed_after reply.Committed shown rows = shown
committed_after other shown rows = rows

-- the line commits the session's transaction
abbrev pub IsCommitOf : Core → Line → Type 0
IsCommitOf core line.Commit = core.active ≡ true
IsCommitOf core other = ⊥

-- An image that a turn may leave has the rows from before it, or those of the transaction that it commits too.
abbrev pub LeftByTurn : ℕ → Rows → Core → Line → Image → Type 0
LeftByTurn count rows core asked c = Holds count rows c ⊎ (IsCommitOf core asked × Holds (count + 1) (rows_of core.pages) c)

-- the reply is of no change
abbrev pub NotChanged : Reply → Type 0
NotChanged (reply.Began id) = ⊥
NotChanged (reply.Inserted rid) = ⊥
NotChanged reply.Committed = ⊥
NotChanged other = Unit {0}

-- What a line and its reply make of the session.
abbrev pub Changes : Core → Line → Reply → Core → Type 0
Changes old line.Begin (reply.Began id) new = (old.active ≡ false) × (new ≡ record old { next = old.next + 1; active = true })
Changes old (line.Insert name row) (reply.Inserted rid) new = (old.active ≡ true) × IsPlaceFor old.pages (length row) rid × (new ≡ record old { pages = set_row old.pages rid row })
Changes old line.Commit reply.Committed new = (old.active ≡ true) × (new ≡ record old { active = false })
Changes old asked told new = NotChanged told × (new ≡ old)
