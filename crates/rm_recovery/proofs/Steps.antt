-- How a restart goes on by one record.
use Rattle.std.proofs.Common.{◌≡◌, inl, inr, ℕ, ◌+◌, ◌<◌, ◌≤◌, List, [], ◌∷◌, ◌++◌, length, max, refl, sym, ap, subst, ◌∙◌, arith}
use Rattle.std.proofs.lemmas.Bool.{eq-eqb}
use Rattle.std.proofs.lemmas.List.{append_assoc}
use Rattle.rm_types.specs.declared.formats.Format.{Format}
use Rattle.rm_record.specs.Records.{spelling}
use Rattle.rm_history.specs.Acts.{Change, Entry, Finish, Undo, History, changes, undoes, enters, ends}
use Rattle.rm_history.specs.Batched.{AreBelow, IsBelow}
use Rattle.rm_history.specs.Contents.{entry_of}
use Rattle.rm_history.specs.Legal.{IsLegal}
use Rattle.rm_history.specs.Losers.{losers_of, with_number, without_number, IsAmong}
use Rattle.rm_history.specs.Pending.{all_pending, without, without_newest}
use Rattle.rm_history.specs.Rules.{IsInOrder}
use Rattle.rm_history.specs.Sizes.{IsNext, end_of, size_of}
use Rattle.rm_history.specs.Transactions.{greatest_txn}
use Rattle.rm_history.specs.UndoBytes.{undo_bytes, compensate_record}
use Rattle.rm_history.specs.Undoing.{category_after, entry_for, undo_for, Undone, AllUndone, Ended, AllEnded, Restarted}
use Rattle.rm_history.proofs.AllPending.{without_newest-head}
use Rattle.rm_history.proofs.Losers.{losers_rise, with_number-kept}
use Rattle.rm_history.proofs.PendingSteps.{if_equal}
use Rattle.rm_history.proofs.Prefixes.{legal_is_in_order, legal_prefixes}
use Rattle.rm_history.proofs.Restarts.{restarts_are_legal, restarts_exist}
use Rattle.rm_history.proofs.Sizes.{next_above, next_within, entry_size, end_size}
use Rattle.rm_history.proofs.UndoBytes.{undo_bytes-undone, undo_bytes-entered, undo_bytes-ended}
use Rattle.rm_history.proofs.UndoSteps.{undone_either}
use Rattle.rm_pool.specs.Journals.{Begins, IsIn}
use Rattle.rm_recovery.specs.Losers.{AreKnown}
use Rattle.rm_recovery.specs.Restarting.{IsRestarting, BeginsRestart}
use Rattle.rm_recovery.specs.Undone.{HasSamePending, HasOneLess, LosesOne}
use Rattle.rm_recovery.proofs.Members.{IsOneOf, pending_in, pending_loses}

-- ---- the transactions after it

-- a record of an unfinished transaction leaves the others
same_losers : (txn : ℕ) (before : History) → AreKnown before → IsAmong (losers_of before) txn
    → (with_number txn (losers_of before) ≡ losers_of before) × (max txn (greatest_txn before) ≡ greatest_txn before)
same_losers txn before known among = (
  with_number-kept txn (losers_of before) (losers_rise before) among,
  let below : txn ≤ greatest_txn before = (known txn among).1 in omega arith,
)

is_pending : (now : History) (last : Change) (rest : List Change) → all_pending now ≡ last ∷ rest → IsOneOf (all_pending now) last
is_pending now last rest pending = subst (λ (all : List Change). IsOneOf all last) (sym pending) (inl refl)

-- the newest pending change is in the history
pub last_is_in : (now : History) (last : Change) (rest : List Change) → all_pending now ≡ last ∷ rest → IsIn (changes last) now
last_is_in now last rest pending = pending_in now last (is_pending now last rest pending)

module _ (now : History) (last : Change) (rest : List Change) (known : AreKnown now) (pending : all_pending now ≡ last ∷ rest) where
  -- and it is of a loser
  pub last_loses : IsAmong (losers_of now) last.txn
  last_loses = pending_loses now last (is_pending now last rest pending)

  pub entered_losers : (e : Entry) → e.txn ≡ last.txn → HasSamePending now (enters e ∷ now)
  entered_losers e same =
      let kept = same_losers e.txn now known (subst (IsAmong (losers_of now)) (sym same) last_loses) in
      (record { losers = kept.0; greatest = kept.1 }, refl)

  pub undone_losers : (u : Undo) → u.txn ≡ last.txn → HasOneLess now (undoes u ∷ now)
  undone_losers u same =
      let kept = same_losers u.txn now known (subst (IsAmong (losers_of now)) (sym same) last_loses) in (
        record { losers = kept.0; greatest = kept.1 },
        λ first others are.
            let is : first ∷ others ≡ last ∷ rest = sym are ∙ pending in
            ap (λ (t : ℕ). without_newest (all_pending now) t) same ∙ ap (λ (all : List Change). without_newest all last.txn) pending
            ∙ without_newest-head last rest ∙ cc,
      )

-- the end of the first loser
pub ended_losers : (now : History) (rest : List ℕ) (f : Finish) → AreKnown now → losers_of now ≡ f.txn ∷ rest → all_pending now ≡ [] → LosesOne now (ends f ∷ now)
ended_losers now rest f known losers none =
    let among : IsAmong (losers_of now) f.txn = subst (λ (l : List ℕ). IsAmong l f.txn) (sym losers) (inl refl) in
    let below : f.txn ≤ greatest_txn now = (known f.txn among).1 in
    record {
      losers = λ txn others are.
          let is : txn ∷ others ≡ f.txn ∷ rest = sym are ∙ losers in
          ap (λ (l : List ℕ). without_number f.txn l) losers ∙ rw (eq-eqb f.txn f.txn refl) cc;
      greatest = omega arith;
      none = ap (λ (all : List Change). without all f.txn) none;
    }

-- ---- what restarts begin with

begins_on : (first mid last : History) → Begins first mid → Begins mid last → Begins first last
begins_on first mid last one two = (two.0 ++ one.0, two.1 ∙ ap (λ (h : History). two.0 ++ h) one.1 ∙ sym (append_assoc two.0 one.0 first))

undone_begins : (format : Format) (before new : History) (all : List Change) → AllUndone format before all new → Begins before new
undone_begins format before new [] is = ([], is)
undone_begins format before new (last ∷ rest) is =
    let one : Begins before is.0 = undone_either format before is.0 last (λ h. Begins before h) is.1
    (λ lsn above right. (undoes (undo_for lsn last) ∷ [], refl))
    (λ next lsn above later wrong. (undoes (undo_for lsn last) ∷ enters (entry_for format next before last) ∷ [], refl)) in
    begins_on before is.0 new one (undone_begins format is.0 new rest is.2)

ended_begins : (before new : History) (txns : List ℕ) → AllEnded before txns new → Begins before new
ended_begins before new [] is = ([], is)
ended_begins before new (txn ∷ rest) is =
    begins_on before is.0 new (ends (record { lsn = is.1.lsn; txn = txn }) ∷ [], is.1.new_is) (ended_begins is.0 new rest is.2)

restarted_begins : (format : Format) (before new : History) → Restarted format before new → Begins before new
restarted_begins format before new is =
    begins_on before is.undone new (undone_begins format before is.undone (all_pending before) is.undoes_all) (ended_begins is.undone new (losers_of before) is.ends_all)

-- ---- a restart that has come so far

-- an entry is right once it is made
pub entered_right : (format : Format) (now : History) (last : Change) (lsn : ℕ)
    → entry_of (enters (entry_for format lsn now last) ∷ now) last.rid.page ≡ category_after format (enters (entry_for format lsn now last) ∷ now) last
entered_right format now last lsn = if_equal last.rid.page last.rid.page (category_after format now last) (entry_of now last.rid.page) refl

pub restarting_begun : (format : Format) (pages : ℕ) (history : History) → IsRestarting format pages history history
restarting_begun format pages history = record { finishes = λ new restarted. restarted; room = λ legal. omega arith; below = λ below. below }

pub begins_restart : {format : Format} {pages : ℕ} {before now : History} → IsRestarting format pages before now → BeginsRestart format before now
begins_restart {format} {now = now} restarting =
    let there = restarts_exist format now in
    record { new = there.0; restarted = restarting.finishes there.0 there.1; begins = restarted_begins format now there.0 there.1 }

pub legal_so_far : {format : Format} {pages : ℕ} {before now : History} → IsRestarting format pages before now → IsLegal format before → IsLegal format now
legal_so_far {format} {before = before} {now = now} restarting legal =
    let begins = begins_restart restarting in
    let new : IsLegal format begins.new = (restarts_are_legal format before begins.new legal begins.restarted).legal in
    legal_prefixes format begins.begins.0 now (subst (IsLegal format) begins.begins.1 new)

pub below_in : (pages : ℕ) (history : History) (c : Change) → AreBelow pages history → IsIn (changes c) history → c.rid.page < pages
below_in pages (newest ∷ before) c below (inl is) = subst (IsBelow pages) (sym is) below.0
below_in pages (newest ∷ before) c below (inr earlier) = below_in pages before c below.1 earlier
below_in pages [] c below none = absurd none

module _ {format : Format} {pages : ℕ} {before now : History} (restarting : IsRestarting format pages before now) where
  in_order : IsLegal format before → IsInOrder now
  in_order legal = legal_is_in_order format now (legal_so_far restarting legal)

  module _ (last : Change) (rest : List Change) (known : AreKnown now) (pending : all_pending now ≡ last ∷ rest) (lsn : ℕ) (next : IsNext now lsn) where
    -- ---- the page's entry is made right

    module _ (wrong : entry_of now last.rid.page ≡ category_after format now last → ⊥) where
      abbrev pub entered : History
      entered = enters (entry_for format lsn now last) ∷ now

      undone_anew : (mid : History) → Undone format entered last mid → Undone format now last mid
      undone_anew mid undone = elim undone.settles [
        | inl right ↦ record {
          settled = undone.settled;
          settles = inr (wrong, (lsn, next_above now lsn next, right.1));
          lsn = undone.lsn;
          above = undone.above;
          new_is = undone.new_is;
        }
        | inr again ↦ absurd (again.0 (entered_right format now last lsn))
      ]

      all_undone_anew : (new : History) → AllUndone format entered (last ∷ rest) new → AllUndone format now (last ∷ rest) new
      all_undone_anew new undone = (undone.0, undone_anew undone.0 undone.1, undone.2)

      finishes_entered : (new : History) → Restarted format entered new → Restarted format now new
      finishes_entered new restarted = record {
        undone = restarted.undone;
        undoes_all =
            subst (λ (all : List Change). AllUndone format now all restarted.undone) (sym pending)
            (all_undone_anew restarted.undone (subst (λ (all : List Change). AllUndone format entered all restarted.undone) pending restarted.undoes_all));
        ends_all =
            subst (λ (txns : List ℕ). AllEnded restarted.undone txns new)
            (entered_losers now last rest known pending (entry_for format lsn now last) refl).0.losers restarted.ends_all;
      }

      pub goes_entered : IsRestarting format pages before entered
      goes_entered = record {
        finishes = λ new restarted. restarting.finishes new (finishes_entered new restarted);
        room = λ legal.
            let entry = entry_for format lsn now last in
            let down = undo_bytes-entered format now last rest lsn (in_order legal) pending wrong (next_above now lsn next) in
            omega (arith, restarting.room legal, down, entry_size entry, next_within now lsn next);
        below = λ below. (below_in pages now last (restarting.below below) (last_is_in now last rest pending), restarting.below below);
      }

    -- ---- the change is undone, where it is

    module _ (right : entry_of now last.rid.page ≡ category_after format now last) where
      abbrev pub taken : History
      taken = undoes (undo_for lsn last) ∷ now

      is_undone : Undone format now last taken
      is_undone = record { settled = now; settles = inl (right, refl); lsn = lsn; above = next_above now lsn next; new_is = refl }

      one_less : HasOneLess now taken
      one_less = undone_losers now last rest known pending (undo_for lsn last) refl

      finishes_taken : (new : History) → Restarted format taken new → Restarted format now new
      finishes_taken new restarted = record {
        undone = restarted.undone;
        undoes_all =
            subst (λ (all : List Change). AllUndone format now all restarted.undone) (sym pending)
            (taken, is_undone, subst (λ (all : List Change). AllUndone format taken all restarted.undone) (one_less.1 last rest pending) restarted.undoes_all);
        ends_all = subst (λ (txns : List ℕ). AllEnded restarted.undone txns new) one_less.0.losers restarted.ends_all;
      }

      taken_size : size_of (undoes (undo_for lsn last)) ≡ length (spelling (compensate_record (undo_for 0 last)))
      unfolding size_of
      taken_size = refl

      pub goes_taken : IsRestarting format pages before taken
      goes_taken = record {
        finishes = λ new restarted. restarting.finishes new (finishes_taken new restarted);
        room = λ legal.
            let down = undo_bytes-undone format now taken last rest (in_order legal) pending is_undone in
            omega (arith, restarting.room legal, down, taken_size, next_within now lsn next);
        below = λ below. (below_in pages now last (restarting.below below) (last_is_in now last rest pending), restarting.below below);
      }

  -- ---- a loser ends

  module _ (txn : ℕ) (rest : List ℕ) (known : AreKnown now) (losers : losers_of now ≡ txn ∷ rest) (none : all_pending now ≡ []) (lsn : ℕ) (next : IsNext now lsn) where
    abbrev pub finish : Finish
    finish = record { lsn = lsn; txn = txn }

    abbrev pub over : History
    over = ends finish ∷ now

    is_over : Ended now txn over
    is_over = record { lsn = lsn; above = next_above now lsn next; new_is = refl }

    loses : LosesOne now over
    loses = ended_losers now rest finish known losers none

    finishes_over : (new : History) → Restarted format over new → Restarted format now new
    finishes_over new restarted =
        let all : AllUndone format over [] restarted.undone = subst (λ (all : List Change). AllUndone format over all restarted.undone) loses.none restarted.undoes_all in
        record {
          undone = now;
          undoes_all = subst (λ (all : List Change). AllUndone format now all now) (sym none) refl;
          ends_all =
              subst (λ (txns : List ℕ). AllEnded now txns new) (sym losers) (
                over,
                is_over,
                subst (λ (h : History). AllEnded h rest new) all
                    (subst (λ (txns : List ℕ). AllEnded restarted.undone txns new) (loses.losers txn rest losers) restarted.ends_all),
              );
        }

    pub goes_over : IsRestarting format pages before over
    goes_over = record {
      finishes = λ new restarted. restarting.finishes new (finishes_over new restarted);
      room = λ legal.
          let down = undo_bytes-ended format now over txn rest none losers is_over in
          omega (arith, restarting.room legal, down, end_size finish, next_within now lsn next);
      below = λ below. (tt, restarting.below below);
    }

  -- ---- all is done

  pub is_restarted : all_pending now ≡ [] → losers_of now ≡ [] → Restarted format before now
  is_restarted none losers = restarting.finishes now (record {
    undone = now;
    undoes_all = subst (λ (all : List Change). AllUndone format now all now) (sym none) refl;
    ends_all = subst (λ (txns : List ℕ). AllEnded now txns now) (sym losers) refl;
  })

  pub restarted_room : all_pending now ≡ [] → losers_of now ≡ [] → IsLegal format before → end_of now ≤ end_of before + undo_bytes format before
  restarted_room none losers legal = omega (arith, restarting.room legal)
