-- What each step of restart's undo leaves, and all of them.
use Rattle.std.specs.Prelude.{◌≡◌, ◌⊎◌, ℕ, suc, ◌+◌, ◌<◌, ◌≤◌, List, [], ◌∷◌, ◌++◌}
use Rattle.std.specs.List.{AllByRecursion}
use Rattle.std.proofs.Common.{inl, inr, refl, sym, subst, ◌∙◌, arith}
use Rattle.rm_types.specs.declared.formats.Format.{Format}
use Rattle.rm_types.specs.declared.numbers.Rid.{Rid}
use Rattle.rm_history.specs.declared.TheConstants.{BATCH_HEADER}
use Rattle.rm_history.specs.Acts.{Act, Change, Undo, Finish, History, changes, undoes, enters, ends, lsn_of, newest_lsn}
use Rattle.rm_history.specs.Batched.{IsBelow, AreBelow}
use Rattle.rm_history.specs.Contents.{entry_of}
use Rattle.rm_history.specs.Legal.{IsLegal}
use Rattle.rm_history.specs.Losers.{losers_of, IsAmong}
use Rattle.rm_history.specs.Pending.{pending_of, of_txn, all_pending}
use Rattle.rm_history.specs.Rows.{rows_of_log}
use Rattle.rm_history.specs.Rules.{IsInOrder}
use Rattle.rm_history.specs.Sizes.{end_of, IsNext}
unfoldable use Rattle.rm_history.specs.Sizes.{size_of}
use Rattle.rm_history.specs.Transactions.{HasChange, HasRecord}
use Rattle.rm_history.specs.UndoBytes.{undo_bytes, bytes_of, compensate_record}
use Rattle.rm_history.specs.Undoing.{category_after, entry_for, undo_for, Undone, Ended}
use Rattle.rm_history.proofs.AllPending.{pending_of-newest, pending_of-none}
use Rattle.rm_history.proofs.Chains.{last_is_changed, last_is_unfinished}
use Rattle.rm_history.proofs.Finished.{last_has_record}
use Rattle.rm_history.proofs.Losers.{losers_are_unfinished}
use Rattle.rm_history.proofs.PendingLaws.{changed_has_change}
use Rattle.rm_history.proofs.Prefixes.{legal_is_in_order}
use Rattle.rm_history.proofs.Rollbacks.{has_ended}
use Rattle.rm_history.proofs.Sizes.{entry_size, end_size, next_within}
use Rattle.rm_history.proofs.UndoBytes.{undo_bytes-entered, undo_bytes-undone, undo_bytes-ended}
use Rattle.rm_history.proofs.UndoTheorem.{no_undo_lacks_room}
use Rattle.rm_image.specs.ImageLaws.{IsOfTxn}
use Rattle.rm_crash.proofs.Restarting.{IsStep, AreSteps}
use Rattle.rm_crash.proofs.Cuts.{committed_in}

-- a change is of a page of the file,
changed_below : (pages : ℕ) (history : History) (txn : ℕ) (rid : Rid) → AreBelow pages history → HasChange history txn rid → rid.page < pages
changed_below pages [] txn rid all has = absurd has
changed_below pages (changes c ∷ before) txn rid all (inl now) = subst (λ (r : Rid). r.page < pages) now.1 all.0
changed_below pages (changes c ∷ before) txn rid all (inr earlier) = changed_below pages before txn rid all.1 earlier
changed_below pages (act ∷ before) txn rid all has = changed_below pages before txn rid all.1 has

-- also one that is pending
pub last_below : (pages : ℕ) (history : History) (txn : ℕ) (last : Change) (rest : List Change) → AreBelow pages history
    → pending_of history txn ≡ last ∷ rest → last.rid.page < pages
last_below pages history txn last rest all is =
    changed_below pages history txn last.rid all (changed_has_change history txn last.rid (last_is_changed history txn last rest is))

-- ---- one step

-- It leaves a legal history with the same rows, and takes its bytes from those of the undo that is left.
record Leaves (start : Format) (before : History) (act : Act) : Type 0 where
  legal : IsLegal start (act ∷ before)
  rows : rows_of_log (act ∷ before) ≡ rows_of_log before
  quiet : (more : History) → committed_in (act ∷ more) ≡ committed_in more
  of_txn : IsOfTxn act
  below : (pages : ℕ) → AreBelow pages before → IsBelow pages act
  records : (txn : ℕ) → HasRecord (act ∷ before) txn → HasRecord before txn
  bytes : size_of act + (BATCH_HEADER + undo_bytes start (act ∷ before)) ≤ undo_bytes start before

undo_size : (u : Undo) → size_of (undoes u) + BATCH_HEADER ≡ bytes_of (compensate_record u)
unfolding size_of
undo_size u = refl

module _ (start : Format) (before : History) (lsn : ℕ) (legal : IsLegal start before) (above : newest_lsn before < lsn) where
  ordered : IsInOrder before
  ordered = legal_is_in_order start before legal

  -- what is the newest of all is so of its transaction
  module _ (last : Change) (rest : List Change) (newest : all_pending before ≡ last ∷ rest) where
    mine : pending_of before last.txn ≡ last ∷ of_txn last.txn rest
    mine = pending_of-newest before last rest newest

    undone_legal : (new : History) → Undone start before last new → IsLegal start new
    undone_legal new undone =
        (no_undo_lacks_room start before new last.txn last (of_txn last.txn rest) legal
        (last_is_unfinished before ordered last.txn last (of_txn last.txn rest) mine) mine undone).legal

    same_records : (txn : ℕ) → (last.txn ≡ txn) ⊎ HasRecord before txn → HasRecord before txn
    same_records txn has = elim has [
      | inl now ↦ subst (HasRecord before) now (last_has_record before last.txn last (of_txn last.txn rest) mine)
      | inr had ↦ had
    ]

    set_leaves : (entry_of before last.rid.page ≡ category_after start before last → ⊥) → Leaves start before (enters (entry_for start lsn before last))
    set_leaves wrong =
        let mid : History = enters (entry_for start lsn before last) ∷ before in
        let undone : Undone start before last (undoes (undo_for (suc lsn) last) ∷ mid) =
        record { settled = mid; settles = inr (wrong, (lsn, above, refl)); lsn = suc lsn; above = omega arith; new_is = refl } in
        record {
          legal = (undone_legal (undoes (undo_for (suc lsn) last) ∷ mid) undone).0;
          rows = refl;
          quiet = λ more. refl;
          of_txn = tt;
          below = λ pages all. last_below pages before last.txn last (of_txn last.txn rest) all mine;
          records = same_records;
          bytes = omega (arith, entry_size (entry_for start lsn before last), undo_bytes-entered start before last rest lsn ordered newest wrong above);
        }

    undo_leaves : entry_of before last.rid.page ≡ category_after start before last → Leaves start before (undoes (undo_for lsn last))
    undo_leaves right =
        let new : History = undoes (undo_for lsn last) ∷ before in
        let undone : Undone start before last new = record { settled = before; settles = inl (right, refl); lsn = lsn; above = above; new_is = refl } in
        record {
          legal = undone_legal new undone;
          rows = refl;
          quiet = λ more. refl;
          of_txn = tt;
          below = λ pages all. last_below pages before last.txn last (of_txn last.txn rest) all mine;
          records = same_records;
          bytes = omega (arith, undo_size (undo_for lsn last), undo_bytes-undone start before new last rest ordered newest undone);
        }

  end_leaves : (txn : ℕ) (rest : List ℕ) → all_pending before ≡ [] → losers_of before ≡ txn ∷ rest → Leaves start before (ends (record { lsn = lsn; txn = txn }))
  end_leaves txn rest none losers =
      let f : Finish = record { lsn = lsn; txn = txn } in
      let among : IsAmong (losers_of before) txn = subst (λ (l : List ℕ). IsAmong l txn) (sym losers) (inl refl) in
      let known = (losers_are_unfinished.exact before ordered txn).0 among in
      let ended : Ended before txn (ends f ∷ before) = record { lsn = lsn; above = above; new_is = refl } in
      record {
        legal = (has_ended start before (ends f ∷ before) txn legal known.1 (pending_of-none before none txn) ended).legal;
        rows = refl;
        quiet = λ more. refl;
        of_txn = tt;
        below = λ pages all. tt;
        records = λ any has. elim has [ inl now ↦ subst (HasRecord before) now known.0 | inr had ↦ had ];
        bytes = omega (arith, end_size f, undo_bytes-ended start before (ends f ∷ before) txn rest none losers ended);
      }

step_leaves : (start : Format) (before : History) (act : Act) → IsLegal start before → IsStep start before act → Leaves start before act
step_leaves start before act legal is = elim is.step [
  | inl it ↦ subst (Leaves start before) (sym it.act_is) (set_leaves start before is.lsn legal is.above it.last it.rest it.newest it.wrong)
  | inr other ↦ elim other [
    | inl it ↦ subst (Leaves start before) (sym it.act_is) (undo_leaves start before is.lsn legal is.above it.last it.rest it.newest it.right)
    | inr it ↦ subst (Leaves start before) (sym it.act_is) (end_leaves start before is.lsn legal is.above it.txn it.rest it.none it.losers)
  ]
]

-- ---- all steps

-- each record stands where the next one may
abbrev pub ArePlaced : History → Type 0
ArePlaced [] = Unit {0}
ArePlaced (act ∷ before) = ArePlaced before × IsNext before (lsn_of act)

pub record StepsLeave (start : Format) (first more : History) : Type 0 where
  pub legal : IsLegal start (more ++ first)
  pub rows : rows_of_log (more ++ first) ≡ rows_of_log first
  pub none : committed_in more ≡ []
  pub of_txn : AllByRecursion IsOfTxn more
  pub below : (pages : ℕ) → AreBelow pages first → AreBelow pages (more ++ first)
  pub records : (txn : ℕ) → HasRecord (more ++ first) txn → HasRecord first txn
  pub room : ArePlaced (more ++ first) → end_of (more ++ first) + undo_bytes start (more ++ first) ≤ end_of first + undo_bytes start first

pub steps_leave : (start : Format) (first more : History) → IsLegal start first → AreSteps start first more → StepsLeave start first more
steps_leave start first [] legal steps = record {
  legal = legal;
  rows = refl;
  none = refl;
  of_txn = tt;
  below = λ pages all. all;
  records = λ txn has. has;
  room = λ placed. omega arith;
}
steps_leave start first (act ∷ more) legal steps =
    let before = steps_leave start first more legal steps.0 in
    let one = step_leaves start (more ++ first) act before.legal steps.1 in
    record {
      legal = one.legal;
      rows = one.rows ∙ before.rows;
      none = one.quiet more ∙ before.none;
      of_txn = (one.of_txn, before.of_txn);
      below = λ pages all. (one.below pages (before.below pages all), before.below pages all);
      records = λ txn has. before.records txn (one.records txn has);
      room = λ placed. omega (arith, before.room placed.0, one.bytes, next_within (more ++ first) (lsn_of act) placed.1);
    }

-- a part of the steps
pub steps_before : (start : Format) (first newer more : History) → AreSteps start first (newer ++ more) → AreSteps start first more
steps_before start first [] more steps = steps
steps_before start first (act ∷ newer) more steps = steps_before start first newer more steps.0
