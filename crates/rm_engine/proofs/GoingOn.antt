-- How a session goes on, with one line more.
use Rattle.std.proofs.Common.{◌≡◌, ℕ, ◌+◌, ◌<◌, List, [], ◌∷◌, ◌++◌, length, refl, sym, ap, subst, ◌∙◌, arith, length-append}
use Rattle.rm_plain.specs.declared.lines.Line.{Line}
use Rattle.rm_plain.specs.declared.lines.Line.TheVariants as line
use Rattle.rm_types.specs.declared.operations.Reply.{Reply}
use Rattle.rm_types.specs.declared.operations.Reply.TheVariants as reply
use Rattle.rm_outside.specs.Images.{Image}
use Rattle.rm_model.specs.Object.{Rows}
use Rattle.rm_model.specs.Files.{rows_of}
use Rattle.rm_session.specs.Session.{Core}
use Rattle.rm_model.proofs.FileLaws.{rows_of-set_row}
use Rattle.rm_wal.specs.Tails.{LogValue}
use Rattle.rm_engine.specs.At.{IsAt, Changes, NotChanged, count_after, committed_after}
use Rattle.rm_engine.specs.Runs.{acknowledges, acknowledged, open_with, put, rows_after, open_of, ShowsRun, IsAfter}
use Rattle.rm_engine.proofs.Runs.{acknowledged-snoc, open_after-snoc, rows_after-stays, rows_after-next, rows_after-enough}

-- a reply of no change puts nothing, and leaves open what is open
put_quiet : (asked : Line) (answer : Reply) → NotChanged answer → (rows : Rows) → put rows asked answer ≡ rows
put_quiet (line.Insert name row) (reply.Inserted rid) quiet rows = absurd quiet
put_quiet asked answer quiet rows = refl

open_quiet : (answer : Reply) → NotChanged answer → (before : ℕ) → open_with answer before ≡ before
open_quiet (reply.Began id) quiet before = absurd quiet
open_quiet reply.Committed quiet before = absurd quiet
open_quiet answer quiet before = refl

-- a commit puts nothing
put_commit : (asked : Line) (rows : Rows) → put rows asked reply.Committed ≡ rows
put_commit (line.Insert name row) rows = refl
put_commit asked rows = refl

count_more : (answer : Reply) (count : ℕ) → count_after answer count ≡ count + acknowledges answer
count_more reply.Committed count = refl
count_more answer count = omega arith

-- the pages get what the line puts
shown_more : (old new : Core) (asked : Line) (answer : Reply) → Changes old asked answer new
    → rows_of new.pages ≡ put (rows_of old.pages) asked answer
shown_more old new line.Begin (reply.Began id) changed = ap (λ (core : Core). rows_of core.pages) changed.1
shown_more old new (line.Insert name row) (reply.Inserted rid) changed =
    ap (λ (core : Core). rows_of core.pages) changed.2 ∙ rows_of-set_row old.pages rid row changed.1.0.in_file
shown_more old new line.Commit reply.Committed changed = ap (λ (core : Core). rows_of core.pages) changed.1
shown_more old new asked answer changed =
    ap (λ (core : Core). rows_of core.pages) changed.1 ∙ sym (put_quiet asked answer changed.0 (rows_of old.pages))

-- the session has a transaction where the replies leave one open
opened_more : (old new : Core) (asked : Line) (answer : Reply) → Changes old asked answer new
    → open_of new.active ≡ open_with answer (open_of old.active)
opened_more old new line.Begin (reply.Began id) changed =
    omega (arith, ap open_of changed.0, ap (λ (core : Core). open_of core.active) changed.1)
opened_more old new (line.Insert name row) (reply.Inserted rid) changed = ap (λ (core : Core). open_of core.active) changed.2
opened_more old new line.Commit reply.Committed changed =
    omega (arith, ap open_of changed.0, ap (λ (core : Core). open_of core.active) changed.1)
opened_more old new asked answer changed =
    ap (λ (core : Core). open_of core.active) changed.1 ∙ sym (open_quiet answer changed.0 (open_of old.active))

module _ (rows : Rows) (lines : List Line) (replies : List Reply) (old new : Core) (asked : Line) (same : length lines ≡ length replies)
    (shows : ShowsRun rows lines replies old) where
  -- the rows of the commits that are acknowledged now
  pub committed_more : (answer : Reply)
      → committed_after answer (rows_of old.pages) (rows_after lines replies (acknowledged replies) rows)
      ≡ rows_after (lines ++ asked ∷ []) (replies ++ answer ∷ []) (acknowledged replies + acknowledges answer) rows
  committed_more reply.Committed =
      shows.shown ∙ sym (put_commit asked (rows_after lines replies (acknowledged replies + 1) rows))
      ∙ sym (rows_after-next lines replies asked reply.Committed (acknowledged replies + 1) rows same (omega arith))
  committed_more answer =
      sym (rows_after-stays lines replies asked answer (acknowledged replies) rows same (omega arith))
      ∙ ap (λ (n : ℕ). rows_after (lines ++ asked ∷ []) (replies ++ answer ∷ []) n rows) (omega arith)

  shows_more : (answer : Reply) → Changes old asked answer new → ShowsRun rows (lines ++ asked ∷ []) (replies ++ answer ∷ []) new
  shows_more answer changed =
      let now = acknowledged (replies ++ answer ∷ []) + 1 in
      let above : acknowledged replies < now = omega (arith, acknowledged-snoc replies answer) in
      record {
        opened = open_after-snoc replies answer 0 ∙ ap (open_with answer) shows.opened ∙ sym (opened_more old new asked answer changed);
        shown = shown_more old new asked answer changed
            ∙ ap (λ (r : Rows). put r asked answer) (shows.shown ∙ rows_after-enough lines replies (acknowledged replies + 1) now rows (omega arith) above)
            ∙ sym (rows_after-next lines replies asked answer now rows same above);
      }

-- the session stands after the longer run
pub after_step : (file_pages before : ℕ) (rows : Rows) (lines : List Line) (replies : List Reply) (old new : Core) (log grown : LogValue)
    (under last inserts pending : ℕ) (left leaves : Image → Type 0) → IsAfter file_pages before rows lines replies old log under inserts left
    → (asked : Line) (answer : Reply) → Changes old asked answer new
    → IsAt file_pages (count_after answer (before + acknowledged replies))
    (committed_after answer (rows_of old.pages) (rows_after lines replies (acknowledged replies) rows)) new grown last pending leaves
    → IsAfter file_pages before rows (lines ++ asked ∷ []) (replies ++ answer ∷ []) new grown last pending leaves
after_step file_pages before rows lines replies old new log grown under last inserts pending left leaves after asked answer changed at =
    let longer = rows_after (lines ++ asked ∷ []) (replies ++ answer ∷ []) in
    let count : count_after answer (before + acknowledged replies) ≡ before + acknowledged (replies ++ answer ∷ []) =
    omega (arith, count_more answer (before + acknowledged replies), acknowledged-snoc replies answer) in
    let committed = committed_more rows lines replies old new asked after.same after.shows answer
    ∙ ap (λ (n : ℕ). longer n rows) (sym (acknowledged-snoc replies answer)) in
    record {
      same = omega (arith, after.same, length-append lines (asked ∷ []), length-append replies (answer ∷ []));
      shows = shows_more rows lines replies old new asked after.same after.shows answer changed;
      at = subst (λ (n : ℕ). IsAt file_pages n (longer (acknowledged (replies ++ answer ∷ [])) rows) new grown last pending leaves) count
          (subst (λ (r : Rows). IsAt file_pages (count_after answer (before + acknowledged replies)) r new grown last pending leaves) committed at);
    }
