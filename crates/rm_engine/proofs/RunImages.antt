-- What the images of a run have.
use Rattle.std.proofs.Common.{◌≡◌, inl, inr, ℕ, ◌+◌, ◌≤◌, true, false, List, [], ◌∷◌, ◌++◌, length, refl, sym, ap, subst, ◌∙◌, arith}
use Rattle.std.proofs.lemmas.Bool.{true≢false}
use Rattle.rm_plain.specs.declared.lines.Line.{Line}
use Rattle.rm_plain.specs.declared.lines.Line.TheVariants as line
use Rattle.rm_types.specs.declared.operations.Reply.{Reply}
use Rattle.rm_types.specs.declared.operations.Reply.TheVariants as reply
use Rattle.rm_outside.specs.Images.{Image}
use Rattle.rm_model.specs.Object.{Rows}
use Rattle.rm_model.specs.Files.{rows_of}
use Rattle.rm_session.specs.Session.{Core, State, Step}
use Rattle.rm_wal.specs.Tails.{LogValue}
use Rattle.rm_restart.specs.Sound.{Holds}
use Rattle.rm_engine.specs.At.{IsAt, IsCommitOf, LeftByTurn}
use Rattle.rm_engine.specs.Runs.{acknowledged, open_after, rows_after, HasFirst, HasAcknowledged, open_of, ShowsRun, IsWithin, IsAfter}
use Rattle.rm_engine.proofs.Runs.{acknowledged-snoc, rows_after-stays}
use Rattle.rm_engine.proofs.GoingOn.{committed_more}

-- who commits has a transaction, and the reply is that it committed
pub commit_open : (core : Core) (asked : Line) → IsCommitOf core asked → core.active ≡ true
commit_open core line.Commit commits = commits
commit_open core asked commits = absurd commits

commit_reply : (old new : State) (asked : Line) (answer : Reply) → Step old asked answer new → IsCommitOf old.core asked
    → answer ≡ reply.Committed
commit_reply old new line.Commit reply.Committed step commits = refl
commit_reply old new line.Commit reply.Skipped step commits = absurd (true≢false (sym commits ∙ step.comes.0))
commit_reply old new line.Commit answer step commits = absurd step.comes
commit_reply old new asked answer step commits = absurd commits

-- an image with one commit more than these, whose rows are those of the run with that one
one_more : (before count : ℕ) (rows shown : Rows) (lines : List Line) (replies : List Reply) → count + 1 ≤ acknowledged replies + open_after replies 0
    → shown ≡ rows_after lines replies (count + 1) rows → (c : Image) → Holds ((before + count) + 1) shown c
    → (first : HasFirst before rows lines replies c) × (first.count ≡ count + 1)
one_more before count rows shown lines replies most same c holds =
    let counted : (before + count) + 1 ≡ before + (count + 1) = omega arith in (
      record {
        count = count + 1;
        most = most;
        holds = subst (λ (n : ℕ). Holds n (rows_after lines replies (count + 1) rows) c) counted
            (subst (λ (r : Rows). Holds ((before + count) + 1) r c) same holds);
      },
      refl,
    )

module _ (before : ℕ) (rows : Rows) (lines : List Line) (replies : List Reply) where
  -- an image with the acknowledged transactions
  abbrev pub first_now : (c : Image) → Holds (before + acknowledged replies) (rows_after lines replies (acknowledged replies) rows) c
      → HasFirst before rows lines replies c
  first_now c holds = record { count = acknowledged replies; most = omega arith; holds = holds }

  pub within_now : (c : Image) → Holds (before + acknowledged replies) (rows_after lines replies (acknowledged replies) rows) c
      → IsWithin before rows lines replies c
  within_now c holds = record { first = first_now c holds; few = omega arith }

  pub acknowledged_now : (c : Image) → Holds (before + acknowledged replies) (rows_after lines replies (acknowledged replies) rows) c
      → HasAcknowledged before rows lines replies c
  acknowledged_now c holds = record { first = first_now c holds; all = omega arith }

  -- an image with no more than those stays one, whatever the next line is
  pub within_stays : (asked : Line) (answer : Reply) → length lines ≡ length replies → (c : Image) → IsWithin before rows lines replies c
      → IsWithin before rows (lines ++ asked ∷ []) (replies ++ answer ∷ []) c
  within_stays asked answer same c within =
      let kept = rows_after-stays lines replies asked answer within.first.count rows same within.few in
      record {
        first = record {
          count = within.first.count;
          most = omega (arith, within.few, acknowledged-snoc replies answer);
          holds = subst (λ (r : Rows). Holds (before + within.first.count) r c) (sym kept) within.first.holds;
        };
        few = omega (arith, within.few, acknowledged-snoc replies answer);
      }

  module _ (core : Core) (shows : ShowsRun rows lines replies core) where
    -- an image with the open transaction too
    pub first_open : (c : Image) → core.active ≡ true → Holds ((before + acknowledged replies) + 1) (rows_of core.pages) c
        → (first : HasFirst before rows lines replies c) × (first.count ≡ acknowledged replies + 1)
    first_open c active holds =
        one_more before (acknowledged replies) rows (rows_of core.pages) lines replies (omega (arith, shows.opened, ap open_of active)) shows.shown c holds

    -- what a turn may leave has the acknowledged transactions, and maybe the one that it commits
    pub acknowledged_left : (asked : Line) (c : Image)
        → LeftByTurn (before + acknowledged replies) (rows_after lines replies (acknowledged replies) rows) core asked c
        → HasAcknowledged before rows lines replies c
    acknowledged_left asked c (inl holds) = acknowledged_now c holds
    acknowledged_left asked c (inr one) =
        let has = first_open c (commit_open core asked one.0) one.1 in record { first = has.0; all = omega (arith, has.1) }

    -- and so none but the acknowledged ones, once the turn is made
    with_commit : (asked : Line) → length lines ≡ length replies → (c : Image)
        → Holds ((before + acknowledged replies) + 1) (rows_of core.pages) c
        → IsWithin before rows (lines ++ asked ∷ []) (replies ++ reply.Committed ∷ []) c
    with_commit asked same c holds =
        let acked = acknowledged-snoc replies reply.Committed in
        let has = one_more before (acknowledged replies) rows (rows_of core.pages) (lines ++ asked ∷ []) (replies ++ reply.Committed ∷ [])
        (omega (arith, acked)) (committed_more rows lines replies core core asked same shows reply.Committed) c holds in
        record { first = has.0; few = omega (arith, has.1, acked) }

  pub within_left : (old new : State) (asked : Line) (answer : Reply) → Step old asked answer new → length lines ≡ length replies
      → ShowsRun rows lines replies old.core → (c : Image)
      → LeftByTurn (before + acknowledged replies) (rows_after lines replies (acknowledged replies) rows) old.core asked c
      → IsWithin before rows (lines ++ asked ∷ []) (replies ++ answer ∷ []) c
  within_left old new asked answer step same shows c (inl holds) = within_stays asked answer same c (within_now c holds)
  within_left old new asked answer step same shows c (inr one) =
      subst (λ (r : Reply). IsWithin before rows (lines ++ asked ∷ []) (replies ++ r ∷ []) c)
      (sym (commit_reply old new asked answer step one.0)) (with_commit old.core shows asked same c one.1)

-- before the first line
pub opened_after : (file_pages before : ℕ) (rows : Rows) (core : Core) (log : LogValue) (under inserts : ℕ) (left : Image → Type 0)
    → core.active ≡ false
    → IsAt file_pages before rows core log under inserts left → IsAfter file_pages before rows [] [] core log under inserts left
opened_after file_pages before rows core log under inserts left idle at =
    let none : before ≡ before + 0 = omega arith in
    record {
      same = refl;
      shows = record { opened = sym (ap open_of idle); shown = (at.at_history.idle idle).shown };
      at = subst (λ (n : ℕ). IsAt file_pages n rows core log under inserts left) none at;
    }
