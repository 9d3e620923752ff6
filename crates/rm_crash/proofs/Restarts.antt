-- A restart is made of steps.
use Rattle.std.specs.Prelude.{◌≡◌, ℕ, List, [], ◌∷◌, ◌++◌}
use Rattle.std.proofs.Common.{inl, inr, refl, sym, ap, subst, ◌∙◌}
use Rattle.std.proofs.lemmas.Bool.{eq-eqb}
use Rattle.std.proofs.lemmas.List.{append_assoc}
use Rattle.rm_types.specs.declared.formats.Format.{Format}
use Rattle.rm_history.specs.Acts.{Change, History, undoes, enters, ends}
use Rattle.rm_history.specs.Legal.{IsLegal}
use Rattle.rm_history.specs.Losers.{losers_of, with_number, without_number}
use Rattle.rm_history.specs.Pending.{pending_of, of_txn, all_pending, without}
use Rattle.rm_history.specs.Undoing.{entry_for, undo_for, Undone, AllUndone, AllEnded, Restarted}
use Rattle.rm_history.proofs.AllPending.{pending_of-newest}
use Rattle.rm_history.proofs.Chains.{last_is_unfinished}
use Rattle.rm_history.proofs.Finished.{last_has_record}
use Rattle.rm_history.proofs.Losers.{losers_are_unfinished, losers_rise, with_number-kept}
use Rattle.rm_history.proofs.Prefixes.{legal_is_in_order}
use Rattle.rm_history.proofs.UndoSteps.{undone_either, all_pending_undone}
use Rattle.rm_history.proofs.UndoTheorem.{no_undo_lacks_room}
use Rattle.rm_crash.proofs.Restarting.{IsStep, AreSteps, IsRestarting}

-- ---- some steps, and then more

steps_joined : (start : Format) (first one more : History) → AreSteps start first one → AreSteps start (one ++ first) more → AreSteps start first (more ++ one)
steps_joined start first one [] steps later = steps
steps_joined start first one (act ∷ more) steps later = (
  steps_joined start first one more steps later.0,
  subst (λ (h : History). IsStep start h act) (sym (append_assoc more one first)) later.1,
)

no_steps : (start : Format) (first history : History) → history ≡ first → IsRestarting start first history
no_steps start first history is = record { more = []; is = is; steps = tt }

goes_on : (start : Format) (first mid last : History) → IsRestarting start first mid → IsRestarting start mid last → IsRestarting start first last
goes_on start first mid last one other = record {
  more = other.more ++ one.more;
  is = other.is ∙ ap (λ (h : History). other.more ++ h) one.is ∙ sym (append_assoc other.more one.more first);
  steps = steps_joined start first one.more other.more one.steps (subst (λ (h : History). AreSteps start h other.more) one.is other.steps);
}

-- ---- one change is undone

undone_steps : (start : Format) (before new : History) (last : Change) (rest : List Change) → all_pending before ≡ last ∷ rest
    → Undone start before last new → IsRestarting start before new
undone_steps start before new last rest newest undone =
    undone_either start before new last (IsRestarting start before) undone
    (λ lsn above right. record {
      more = undoes (undo_for lsn last) ∷ [];
      is = refl;
      steps = (
        tt,
        record { lsn = lsn; above = above; step = inr (inl (record { last = last; rest = rest; newest = newest; right = right; act_is = refl })) },
      );
    })
    (λ next lsn above later wrong. record {
      more = undoes (undo_for lsn last) ∷ enters (entry_for start next before last) ∷ [];
      is = refl;
      steps = (
        (
          tt,
          record { lsn = next; above = above; step = inl (record { last = last; rest = rest; newest = newest; wrong = wrong; act_is = refl }) },
        ),
        record {
          lsn = lsn;
          above = later;
          step = inr (inl (record {
            last = last;
            rest = rest;
            newest = newest;
            right = rw (eq-eqb last.rid.page last.rid.page refl);
            act_is = refl;
          }));
        },
      );
    })

-- the losers stay
losers_stay : (start : Format) (before new : History) (last : Change) (rest : List Change) → IsLegal start before → all_pending before ≡ last ∷ rest
    → Undone start before last new → losers_of new ≡ losers_of before
losers_stay start before new last rest legal newest undone =
    let ordered = legal_is_in_order start before legal in
    let mine : pending_of before last.txn ≡ last ∷ of_txn last.txn rest = pending_of-newest before last rest newest in
    let among = (losers_are_unfinished.exact before ordered last.txn).1
    (last_has_record before last.txn last (of_txn last.txn rest) mine, last_is_unfinished before ordered last.txn last (of_txn last.txn rest) mine) in
    let kept : with_number last.txn (losers_of before) ≡ losers_of before = with_number-kept last.txn (losers_of before) (losers_rise before) among in
    undone_either start before new last (λ h. losers_of h ≡ losers_of before) undone
    (λ lsn above right. kept) (λ next lsn above later wrong. ap (with_number last.txn) kept ∙ kept)

-- ---- all changes are undone, and all losers end

record AreUndone (start : Format) (before new : History) : Type 0 where
  steps : IsRestarting start before new
  none : all_pending new ≡ []
  losers : losers_of new ≡ losers_of before

all_undone : (start : Format) (before new : History) (all : List Change) → IsLegal start before → all_pending before ≡ all
    → AllUndone start before all new → AreUndone start before new
all_undone start before new [] legal is undone = record { steps = no_steps start before new undone; none = ap all_pending undone ∙ is; losers = ap losers_of undone }
all_undone start before new (last ∷ rest) legal is undone =
    let mid : History = undone.0 in
    let mine : pending_of before last.txn ≡ last ∷ of_txn last.txn rest = pending_of-newest before last rest is in
    let unfinished = last_is_unfinished before (legal_is_in_order start before legal) last.txn last (of_txn last.txn rest) mine in
    let one = no_undo_lacks_room start before mid last.txn last (of_txn last.txn rest) legal unfinished mine undone.1 in
    let more = all_undone start mid new rest one.legal (all_pending_undone start before mid last rest is undone.1) undone.2 in
    record {
      steps = goes_on start before mid new (undone_steps start before mid last rest is undone.1) more.steps;
      none = more.none;
      losers = more.losers ∙ losers_stay start before mid last rest legal is undone.1;
    }

all_ended : (start : Format) (before new : History) (txns : List ℕ) → all_pending before ≡ [] → losers_of before ≡ txns
    → AllEnded before txns new → IsRestarting start before new
all_ended start before new [] none are ended = no_steps start before new ended
all_ended start before new (txn ∷ rest) none are ended =
    let one : IsRestarting start before ended.0 = record {
      more = ends (record { lsn = ended.1.lsn; txn = txn }) ∷ [];
      is = ended.1.new_is;
      steps = (
        tt,
        record {
          lsn = ended.1.lsn;
          above = ended.1.above;
          step = inr (inr (record { txn = txn; rest = rest; none = none; losers = are; act_is = refl }));
        },
      );
    } in
    let nothing : all_pending ended.0 ≡ [] = ap all_pending ended.1.new_is ∙ ap (λ (all : List Change). without all txn) none in
    let losers : losers_of ended.0 ≡ rest = ap losers_of ended.1.new_is ∙ ap (without_number txn) are ∙ rw (eq-eqb txn txn refl) in
    goes_on start before ended.0 new one (all_ended start ended.0 new rest nothing losers ended.2)

pub restarts_are_steps : (start : Format) (first new : History) → IsLegal start first → Restarted start first new → IsRestarting start first new
restarts_are_steps start first new legal restarted =
    let undone = all_undone start first restarted.undone (all_pending first) legal refl restarted.undoes_all in
    goes_on start first restarted.undone new undone.steps (all_ended start restarted.undone new (losers_of first) undone.none undone.losers restarted.ends_all)
