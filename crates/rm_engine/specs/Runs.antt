-- A run over a log, and the rows that its transactions leave, in the order of their commits.
use Rattle.std.specs.Prelude.{◌≡◌, ℕ, suc, ◌+◌, ◌-◌, ◌≤◌, List, [], ◌∷◌, length, Bool, true, false}
use Rattle.rm_plain.specs.declared.lines.Line.{Line}
use Rattle.rm_plain.specs.declared.lines.Line.TheVariants as line
use Rattle.rm_types.specs.declared.operations.Reply.{Reply}
use Rattle.rm_types.specs.declared.operations.Reply.TheVariants as reply
use Rattle.rm_outside.specs.Images.{Image}
use Rattle.rm_model.specs.Object.{Rows, with_row}
use Rattle.rm_model.specs.Files.{rows_of}
use Rattle.rm_session.specs.Session.{Core, State, Step}
use Rattle.rm_wal.specs.Tails.{LogValue}
use Rattle.rm_restart.specs.Sound.{Holds}
use Rattle.rm_engine.specs.Numbers.{Used, used_after, LacksRoom}
use Rattle.rm_engine.specs.At.{IsAt}

-- the log has room for the line's turn
abbrev pub HasLogRoom : ℕ → Core → Used → Line → Type 0
HasLogRoom limit core used asked = (end : ℕ) → LacksRoom limit core used asked end → ⊥

-- The lines draw these replies, each line once and in order. Each line had room in the log; before and after the run the
-- log is used this much.
abbrev pub LoggedRun : ℕ → State → Used → List Line → List Reply → State → Used → Type 0
LoggedRun limit old used [] [] new now = (new ≡ old) × (now ≡ used)
LoggedRun limit old used (asked ∷ lines) (answer ∷ replies) new now =
    (mid : State) × Step old asked answer mid × HasLogRoom limit old.core used asked
    × LoggedRun limit mid (used_after asked answer used) lines replies new now
LoggedRun limit old used [] (answer ∷ replies) new now = ⊥
LoggedRun limit old used (asked ∷ lines) [] new now = ⊥

-- how many commits a reply acknowledges
abbrev pub acknowledges : Reply → ℕ
acknowledges reply.Committed = 1
acknowledges other = 0

-- how many commits the replies acknowledge
abbrev pub acknowledged : List Reply → ℕ
acknowledged [] = 0
acknowledged (answer ∷ replies) = acknowledged replies + acknowledges answer

-- how many transactions are open after a reply, with this many open before it
abbrev pub open_with : Reply → ℕ → ℕ
open_with (reply.Began id) open_before = open_before + 1
open_with reply.Committed open_before = open_before - 1
open_with other open_before = open_before

-- how many transactions are open after the replies, with this many open before them
abbrev pub open_after : List Reply → ℕ → ℕ
open_after [] open_before = open_before
open_after (answer ∷ replies) open_before = open_after replies (open_with answer open_before)

-- the rows with what a line and its reply put there
abbrev pub put : Rows → Line → Reply → Rows
put rows (line.Insert name row) (reply.Inserted rid) = with_row rows rid row
put rows asked answer = rows

-- The rows with what the first `count` committed transactions put there, in the order of their commits. A count above the
-- acknowledged commits takes what the open transaction put there, too.
abbrev pub rows_after : List Line → List Reply → ℕ → Rows → Rows
rows_after (asked ∷ lines) (answer ∷ replies) (suc count) rows =
    rows_after lines replies (suc count - acknowledges answer) (put rows asked answer)
rows_after lines replies count rows = rows

-- An image of a run: it is sound, and after the commits from before the run it has those of the run's first `count`
-- transactions, and their rows. Each of these was acknowledged, or is open at the end of the run.
pub record HasFirst (before : ℕ) (rows : Rows) (lines : List Line) (replies : List Reply) (c : Image) : Type 0 where
  pub count : ℕ
  pub most : count ≤ acknowledged replies + open_after replies 0
  pub holds : Holds (before + count) (rows_after lines replies count rows) c

-- the same, and it has every acknowledged transaction
pub record HasAcknowledged (before : ℕ) (rows : Rows) (lines : List Line) (replies : List Reply) (c : Image) : Type 0 where
  pub first : HasFirst before rows lines replies c
  pub all : acknowledged replies ≤ first.count

-- how many transactions a session has open
abbrev pub open_of : Bool → ℕ
open_of true = 1
open_of false = 0

-- What a session has after the run: it has a transaction where the replies leave one open, and its pages have the rows of
-- the acknowledged transactions and of the open one.
pub record ShowsRun (rows : Rows) (lines : List Line) (replies : List Reply) (core : Core) : Type 0 where
  pub opened : open_after replies 0 ≡ open_of core.active
  pub shown : rows_of core.pages ≡ rows_after lines replies (acknowledged replies + 1) rows

-- an image of a run that has no more than the acknowledged transactions
pub record IsWithin (before : ℕ) (rows : Rows) (lines : List Line) (replies : List Reply) (c : Image) : Type 0 where
  pub first : HasFirst before rows lines replies c
  pub few : first.count ≤ acknowledged replies

-- Where the session stands after the lines and their replies, and what its volume has.
pub record IsAfter (file_pages before : ℕ) (rows : Rows) (lines : List Line) (replies : List Reply) (core : Core)
    (log : LogValue) (under inserts : ℕ) (left : Image → Type 0) : Type 0 where
  pub same : length lines ≡ length replies
  pub shows : ShowsRun rows lines replies core
  pub at : IsAt file_pages (before + acknowledged replies) (rows_after lines replies (acknowledged replies) rows) core log under inserts left
