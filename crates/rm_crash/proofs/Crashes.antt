-- Each image that a crash leaves is found again, with the rows of a run's first transactions.
use Rattle.std.specs.Prelude.{◌≡◌, ◌⊎◌, ℕ, ◌+◌, ◌-◌, ◌≤◌, List, [], ◌∷◌, ◌++◌, drop, length}
use Rattle.std.specs.List.{AllByRecursion}
use Rattle.std.proofs.Common.{inl, inr, sym, ap, subst, ◌∙◌, arith}
use Rattle.std.proofs.lemmas.List.{append_assoc, append_cancel_right, append-nil, drop_at, length-append}
use Rattle.rm_types.specs.declared.areas.Area.TheVariants.{Log}
use Rattle.rm_types.specs.declared.formats.Format.{Format}
use Rattle.rm_types.specs.declared.numbers.Rid.{Rid}
use Rattle.rm_types.specs.declared.numbers.TheConstants.{MAX_LOG}
use Rattle.rm_outside.specs.Images.{Image}
use Rattle.rm_model.specs.Categories.{category_of}
use Rattle.rm_history.specs.declared.TheConstants.{BATCH_HEADER}
use Rattle.rm_history.specs.Acts.{History, marks}
use Rattle.rm_history.specs.Batched.{AreBelow, acts_of_batches}
use Rattle.rm_history.specs.Legal.{IsLegal}
use Rattle.rm_history.specs.Logs.{Batch, HasLog}
use Rattle.rm_history.specs.Rows.{rows_of_log}
use Rattle.rm_history.specs.Sizes.{end_of}
use Rattle.rm_history.specs.Transactions.{HasRecord, IsFinished, greatest_txn}
use Rattle.rm_history.specs.UndoBytes.{undo_bytes}
use Rattle.rm_history.specs.UndoLaws.{IsRestarted}
use Rattle.rm_history.proofs.Prefixes.{legal_is_in_order, legal_prefixes}
use Rattle.rm_history.proofs.Readings.{log_once}
use Rattle.rm_history.proofs.Restarts.{restarts_are_legal}
use Rattle.rm_core.specs.Below.{Rows}
use Rattle.rm_core.specs.Names.{IsAcknowledged, IsAmong, Machine, commits_in, order_of}
use Rattle.rm_core.specs.Orders.{rows_after}
use Rattle.rm_core.proofs.RestartRoom.{room_is_kept}
use Rattle.rm_core.proofs.Runs.{run_kept}
use Rattle.rm_core.proofs.Serials.{runs_are_serial}
use Rattle.rm_core.proofs.Told.{acknowledged_is_durable}
use Rattle.rm_image.specs.ImageLaws.{IsOfTxn}
use Rattle.rm_image.specs.Starts.{Start}
use Rattle.rm_pool.specs.Journals.{IsBetween}
use Rattle.rm_pool.proofs.Journals.{from_first}
use Rattle.rm_crash.proofs.Restarting.{AreSteps, IsRestarting}
use Rattle.rm_crash.specs.Crashes.{start_of, IsRunFrom, first_of}
use Rattle.rm_crash.specs.Laws.{RestartedLogsOpen, RestartImagesAreFound, CrashImagesAreFound, AcknowledgedStay, RestartsRecover}
use Rattle.rm_crash.proofs.Cuts.{either_cut, all_append, all_after, below_after, committed_in, committed_both, commits_counted, among_either, among_first}
use Rattle.rm_crash.proofs.Cuts.{finished_later, not_again, after_none}
use Rattle.rm_crash.proofs.Steps.{ArePlaced, StepsLeave, steps_leave, steps_before}
use Rattle.rm_crash.proofs.Restarts.{restarts_are_steps}
use Rattle.rm_crash.proofs.Runs.{Added, run_added}
use Rattle.rm_crash.proofs.Images.{IsSoundHistory, found_history, with_log, placed_batches, standing_batches}

-- the log of an image, between two histories
record IsCut (first history : History) (c : Image) : Type 0 where
  newer : History
  more : History
  batches : List Batch
  has : HasLog (c Log) batches
  acts_are : acts_of_batches batches ≡ more ++ first
  is : history ≡ newer ++ (more ++ first)
  placed : ArePlaced (more ++ first)

cut_of : (first history : History) (c : Image) → IsBetween first history c → IsCut first history c
cut_of first history c between = record {
  newer = between.front.newer;
  more = between.more;
  batches = between.front.batches;
  has = between.front.has;
  acts_are = between.kept;
  is = between.front.is ∙ ap (λ (h : History). between.front.newer ++ h) between.kept;
  placed = subst ArePlaced between.kept (placed_batches between.front.batches (standing_batches (c Log) between.front.batches between.front.has.stands));
}

-- ---- a part of a restart

record IsPart (start : Start) (first more : History) : Type 0 where
  sound : IsSoundHistory start (more ++ first)
  rows : rows_of_log (more ++ first) ≡ rows_of_log first
  none : commits_in more ≡ 0
  records : (txn : ℕ) → HasRecord (more ++ first) txn → HasRecord first txn

restart_part : (start : Start) (first newer more : History) → IsSoundHistory start first → AreSteps start.format first (newer ++ more)
    → ArePlaced (more ++ first) → IsPart start first more
restart_part start first newer more sound steps placed =
    let it = steps_leave start.format first more sound.kept.0 (steps_before start.format first newer more steps) in
    record {
      sound = record {
        kept = (it.legal, all_append IsOfTxn more first it.of_txn sound.kept.1);
        below = it.below start.pages sound.below;
        room = omega (arith, it.room placed, sound.room);
      };
      rows = it.rows;
      none = commits_counted more ∙ ap (λ (l : List ℕ). length l) it.none;
      records = it.records;
    }

pub restart_images_are_found : RestartImagesAreFound
restart_images_are_found start fields first history new d c found restarted begins keeps between =
    let cut = cut_of first history c between in
    let sound = found_history start fields first d found in
    let restarting = restarts_are_steps start.format first new sound.kept.0 restarted in
    let newer : History = begins.0 ++ cut.newer in
    let whole : new ≡ newer ++ (cut.more ++ first) =
    begins.1 ∙ ap (λ (h : History). begins.0 ++ h) cut.is ∙ sym (append_assoc begins.0 cut.newer (cut.more ++ first)) in
    let both : restarting.more ++ first ≡ (newer ++ cut.more) ++ first = sym restarting.is ∙ whole ∙ sym (append_assoc newer cut.more first) in
    let same : restarting.more ≡ newer ++ cut.more = append_cancel_right restarting.more (newer ++ cut.more) first both in
    let part = restart_part start first newer cut.more sound (subst (AreSteps start.format first) same restarting.steps) cut.placed in
    record {
      more = cut.more;
      found = with_log start fields first (cut.more ++ first) d c cut.batches found keeps cut.has cut.acts_are part.sound;
      rows = λ rid. ap (λ (rows : Rows). rows rid) (part.rows ∙ sym (after_none (rows_of_log first) [] (commits_in cut.more) part.none));
    }

-- ---- a part of a run

module _ (first : History) (m : Machine) (from : IsRunFrom first m) (sound : IsSoundHistory (start_of m) first) where
  abbrev format : Format
  format = m.opening.setting.format

  abbrev opening : History
  opening = m.opening.history

  added : Added m.opening m.trace m.state
  added = run_added m from.run

  steps : IsRestarting format first opening
  steps = restarts_are_steps format first opening sound.kept.0 from.restarted

  leave : StepsLeave format first steps.more
  leave = steps_leave format first steps.more sound.kept.0 steps.steps

  -- what holds of the log at the end
  all_of_txn : AllByRecursion IsOfTxn m.state.history
  all_of_txn =
      let before = subst (AllByRecursion IsOfTxn) (sym steps.is) (all_append IsOfTxn steps.more first leave.of_txn sound.kept.1) in
      subst (AllByRecursion IsOfTxn) (sym added.is) (all_append IsOfTxn added.past opening (added.of_txn from.no_checkpoint) before)

  all_below : AreBelow m.opening.setting.pages m.state.history
  all_below = added.below (subst (AreBelow m.opening.setting.pages) (sym steps.is) (leave.below m.opening.setting.pages sound.below))

  -- room after the opened log, and after more
  opening_room : ArePlaced opening → end_of opening + (BATCH_HEADER + undo_bytes format opening) ≤ MAX_LOG
  opening_room placed =
      let here = leave.room (subst ArePlaced steps.is placed) in
      subst (λ (h : History). end_of h + (BATCH_HEADER + undo_bytes format h) ≤ MAX_LOG) (sym steps.is) (omega (arith, here, sound.room))

  run_room : (newer mid : History) → m.state.history ≡ newer ++ (mid ++ opening) → ArePlaced (mid ++ opening)
      → end_of (mid ++ opening) + (BATCH_HEADER + undo_bytes format (mid ++ opening)) ≤ MAX_LOG
  run_room newer [] is placed = opening_room placed
  run_room newer (act ∷ mid) is placed = omega (arith, room_is_kept.restart m newer (act ∷ mid) from.run is (λ none. cc), from.limit)

  -- where the log is cut
  module _ (newer more : History) (is : m.state.history ≡ newer ++ (more ++ first)) where
    both : added.past ++ steps.more ≡ newer ++ more
    both = append_cancel_right (added.past ++ steps.more) (newer ++ more) first (
        append_assoc added.past steps.more first ∙ ap (λ (h : History). added.past ++ h) (sym steps.is) ∙ sym added.is ∙ is
        ∙ sym (append_assoc newer more first)
        )

    -- in the run, or in the restart before it
    record InRun : Type 0 where
      mid : History
      past_is : added.past ≡ newer ++ mid
      more_is : more ≡ mid ++ steps.more
      here : more ++ first ≡ mid ++ opening
      count : commits_in more ≡ length (committed_in mid)

    record InRestart : Type 0 where
      mid : History
      newer_is : newer ≡ added.past ++ mid
      steps_are : steps.more ≡ mid ++ more

    either : InRun ⊎ InRestart
    either = elim (either_cut added.past steps.more newer more both) [
      | inl later ↦
          let committed : committed_in more ≡ committed_in later.0 =
          ap committed_in later.2 ∙ committed_both later.0 steps.more ∙ ap (λ (l : List ℕ). committed_in later.0 ++ l) leave.none
          ∙ append-nil (committed_in later.0) in
          inl (record {
            mid = later.0;
            past_is = later.1;
            more_is = later.2;
            here = ap (λ (h : History). h ++ first) later.2 ∙ append_assoc later.0 steps.more first ∙ ap (λ (h : History). later.0 ++ h) (sym steps.is);
            count = commits_counted more ∙ ap (λ (l : List ℕ). length l) committed;
          })
      | inr earlier ↦ inr (record { mid = earlier.0; newer_is = earlier.1; steps_are = earlier.2 })
    ]

    -- the rows and the room there
    record Here : Type 0 where
      rows : (rid : Rid) → rows_of_log (more ++ first) rid ≡ rows_after (rows_of_log first) m.trace (commits_in more) rid
      room : end_of (more ++ first) + (BATCH_HEADER + undo_bytes format (more ++ first)) ≤ MAX_LOG

    in_run : ArePlaced (more ++ first) → InRun → Here
    in_run placed it =
        let whole : m.state.history ≡ newer ++ (it.mid ++ opening) = is ∙ ap (λ (h : History). newer ++ h) it.here in
        let same : rows_of_log opening ≡ rows_of_log first = (restarts_are_legal format first opening sound.kept.0 from.restarted).rows in
        let count : commits_in it.mid ≡ commits_in more = commits_counted it.mid ∙ sym it.count in
        record {
          rows = λ rid.
              ap (λ (h : History). rows_of_log h rid) it.here ∙ (runs_are_serial m from.run).prefixes newer it.mid whole rid
              ∙ (λ i. rows_after (same i) m.trace (count i) rid);
          room = subst (λ (h : History). end_of h + (BATCH_HEADER + undo_bytes format h) ≤ MAX_LOG) (sym it.here)
              (run_room newer it.mid whole (subst ArePlaced it.here placed));
        }

    in_restart : ArePlaced (more ++ first) → InRestart → Here
    in_restart placed it =
        let part = restart_part (start_of m) first it.mid more sound (subst (AreSteps format first) it.steps_are steps.steps) placed in
        record {
          rows = λ rid. ap (λ (rows : Rows). rows rid) (part.rows ∙ sym (after_none (rows_of_log first) m.trace (commits_in more) part.none));
          room = part.sound.room;
        }

    here_of : ArePlaced (more ++ first) → Here
    here_of placed = elim either [ inl it ↦ in_run placed it | inr it ↦ in_restart placed it ]

    run_part : ArePlaced (more ++ first) → IsSoundHistory (start_of m) (more ++ first)
    run_part placed = record {
      kept = (
        legal_prefixes format newer (more ++ first) (subst (IsLegal format) is (run_kept m from.run).legal),
        all_after IsOfTxn newer (more ++ first) (subst (AllByRecursion IsOfTxn) is all_of_txn),
      );
      below = below_after m.opening.setting.pages newer (more ++ first) (subst (AreBelow m.opening.setting.pages) is all_below);
      room = (here_of placed).room;
    }

    -- what is finished there and acknowledged is among its commits
    among_run : (txn : ℕ) → IsAmong (order_of m.trace) txn → (IsAmong (committed_in newer) txn → ⊥) → InRun → IsAmong (first_of m.trace (commits_in more)) txn
    among_run txn ordered not it =
        let one : List ℕ = committed_in newer in
        let other : List ℕ = committed_in it.mid in
        let order : order_of m.trace ≡ one ++ other = added.order ∙ ap committed_in it.past_is ∙ committed_both newer it.mid in
        let n : ℕ = length (order_of m.trace) - commits_in more in
        let len : length one ≡ n = omega (arith, ap (λ (l : List ℕ). length l) order, length-append one other, it.count) in
        let first_are : first_of m.trace (commits_in more) ≡ other = ap (λ (l : List ℕ). drop n l) order ∙ drop_at one other n len in
        elim (among_either one other txn (subst (λ (l : List ℕ). IsAmong l txn) order ordered)) [
          | inl newest ↦ absurd (not newest)
          | inr there ↦ subst (λ (l : List ℕ). IsAmong l txn) (sym first_are) there
        ]

    among_restart : (txn : ℕ) → IsAmong (order_of m.trace) txn → InRestart → IsAmong (committed_in newer) txn
    among_restart txn ordered it =
        let past : IsAmong (committed_in added.past) txn = subst (λ (l : List ℕ). IsAmong l txn) added.order ordered in
        subst (λ (l : List ℕ). IsAmong l txn) (sym (ap committed_in it.newer_is ∙ committed_both added.past it.mid))
        (among_first (committed_in added.past) (committed_in it.mid) txn past)

    still_there : (txn : ℕ) → IsAcknowledged m.trace txn → IsFinished (more ++ first) txn → IsAmong (first_of m.trace (commits_in more)) txn
    still_there txn acknowledged finished =
        let in_order = legal_is_in_order format (newer ++ (more ++ first)) (subst (IsLegal format) is (run_kept m from.run).legal) in
        let ordered = acknowledged_is_durable.ordered m txn from.run acknowledged in
        let not : IsAmong (committed_in newer) txn → ⊥ = not_again newer (more ++ first) txn in_order finished in
        elim either [ inl it ↦ among_run txn ordered not it | inr it ↦ absurd (not (among_restart txn ordered it)) ]

pub crash_images_are_found : CrashImagesAreFound
crash_images_are_found fields first m d c found from keeps between =
    let cut = cut_of first m.state.history c between in
    let sound = found_history (start_of m) fields first d found in
    record {
      more = cut.more;
      found = with_log (start_of m) fields first (cut.more ++ first) d c cut.batches found keeps cut.has cut.acts_are
          (run_part first m from sound cut.newer cut.more cut.is cut.placed);
      rows = (here_of first m from sound cut.newer cut.more cut.is cut.placed).rows;
    }

pub acknowledged_stay : AcknowledgedStay
acknowledged_stay fields first durable m d c found from keeps begins between finished =
    let image = crash_images_are_found fields first m d c found from keeps (from_first begins between) in
    let front = between.front in
    let one_log : front.batches ≡ image.found.batches = log_once (c Log) front.batches image.found.batches front.has image.found.sound.has_log in
    let same : acts_of_batches front.batches ≡ image.more ++ first = ap acts_of_batches one_log ∙ image.found.history_is in
    record {
      image = image;
      acknowledged = λ txn told.
          still_there first m from (found_history (start_of m) fields first d found) front.newer image.more
          (front.is ∙ ap (λ (h : History). front.newer ++ h) same) txn told
          (subst (λ (h : History). IsFinished h txn) (sym between.kept ∙ same) (finished_later between.more durable txn (finished txn told)));
    }

-- ---- restart, and the next run

pub restarts_recover : RestartsRecover
restarts_recover start fields first new trace c image restarted =
    let legal = (found_history start fields (image.more ++ first) c image.found).kept.0 in
    let it = restarts_are_legal start.format (image.more ++ first) new legal restarted in
    record { restarted = it; rows = λ rid. it.settled rid ∙ image.rows rid }

-- an id that has a record is at most the greatest
record_greatest : (history : History) (txn : ℕ) → HasRecord history txn → txn ≤ greatest_txn history
record_greatest [] txn has = absurd has
record_greatest (marks m ∷ before) txn has = record_greatest before txn has
record_greatest (act ∷ before) txn (inl now) = omega (arith, now)
record_greatest (act ∷ before) txn (inr had) = omega (arith, record_greatest before txn had)

pub restarted_logs_open : RestartedLogsOpen
restarted_logs_open start fields first c batches sessions next found are restarted above ids =
    let sound = found_history start fields first c found in
    let new : History = acts_of_batches batches in
    let it : IsRestarted start.format first new = restarts_are_legal start.format first new sound.kept.0 restarted in
    let steps = restarts_are_steps start.format first new sound.kept.0 restarted in
    let placed : ArePlaced (steps.more ++ first) = subst ArePlaced steps.is (placed_batches batches are) in
    let part = restart_part start first [] steps.more sound steps.steps placed in
    record {
      legal = it.legal;
      finished = it.finished;
      right = λ page. it.entered page ∙ ap (category_of start.format) (sym (it.pages page));
      fresh = λ txn has.
          let had : HasRecord first txn = part.records txn (subst (λ (h : History). HasRecord h txn) steps.is has) in
          omega (arith, above, record_greatest first txn had);
      some = omega (arith, above);
      ids = ids;
      room = subst (λ (h : History). end_of h ≤ MAX_LOG) (sym steps.is) (omega (arith, part.sound.room));
    }
