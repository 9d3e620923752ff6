-- An LSN names one change, and a compensation names one that was logged before it.
use Rattle.std.proofs.Common.{◌≡◌, inl, inr, ℕ, ◌<◌, ◌≤◌, true, false, eqb, List, [], ◌∷◌, refl, sym, subst, ◌∙◌, arith}
use Rattle.std.specs.List.{AllByRecursion}
use Rattle.std.proofs.lemmas.Bool.{true≢false, or_cases, eqb-true, false_from_ne_true}
use Rattle.rm_history.specs.Acts.{Act, Change, Undo, History, changes, undoes, newest_lsn}
use Rattle.rm_history.specs.Pending.{pending_of}
use Rattle.rm_history.specs.Rules.{MayUndo, IsInOrder}
use Rattle.rm_history.specs.Literal.{is_undone}
use Rattle.rm_history.proofs.PendingInduction.{pending_by}
use Rattle.rm_history.proofs.NetLists.{HasLogged}

-- no change is above the newest record
pub logged_below : (history : History) (lsn txn : ℕ) → IsInOrder history → HasLogged history lsn txn → lsn ≤ newest_lsn history
logged_below [] lsn txn in_order had = absurd had
logged_below (changes c ∷ before) lsn txn in_order (inl now) = omega (arith, now.0)
logged_below (changes c ∷ before) lsn txn in_order (inr had) = omega (arith, in_order.1.above, logged_below before lsn txn in_order.0 had)
logged_below (other ∷ before) lsn txn in_order had = omega (arith, in_order.1.above, logged_below before lsn txn in_order.0 had)

-- the change with an LSN is of one transaction
pub logged_once : (history : History) (lsn txn other : ℕ) → IsInOrder history → HasLogged history lsn txn → HasLogged history lsn other → txn ≡ other
logged_once [] lsn txn other in_order had other_had = absurd had
logged_once (changes c ∷ before) lsn txn other in_order (inl now) (inl other_now) = sym now.1 ∙ other_now.1
logged_once (changes c ∷ before) lsn txn other in_order (inl now) (inr other_had) =
    absurd (omega (arith, now.0, in_order.1.above, logged_below before lsn other in_order.0 other_had))
logged_once (changes c ∷ before) lsn txn other in_order (inr had) (inl other_now) =
    absurd (omega (arith, other_now.0, in_order.1.above, logged_below before lsn txn in_order.0 had))
logged_once (changes c ∷ before) lsn txn other in_order (inr had) (inr other_had) = logged_once before lsn txn other in_order.0 had other_had
logged_once (act ∷ before) lsn txn other in_order had other_had = logged_once before lsn txn other in_order.0 had other_had

-- the transaction has a change record for each of these
abbrev AreLogged : History → ℕ → List Change → Type 0
AreLogged history txn listed = AllByRecursion (λ (c : Change). HasLogged history c.lsn txn) listed

-- it has one as records come
logged_stays : (lsn txn : ℕ) (act : Act) (before : History) → HasLogged before lsn txn → HasLogged (act ∷ before) lsn txn
logged_stays lsn txn (changes c) before had = inr had
logged_stays lsn txn other before had = had

all_stay : (act : Act) (before : History) (txn : ℕ) (listed : List Change) → AreLogged before txn listed → AreLogged (act ∷ before) txn listed
all_stay act before txn [] are = tt
all_stay act before txn (newest ∷ rest) are = (logged_stays newest.lsn txn act before are.0, all_stay act before txn rest are.1)

-- what is pending was logged
pending_are_logged : (history : History) (txn : ℕ) → AreLogged history txn (pending_of history txn)
pending_are_logged history txn =
    pending_by (λ h. Unit {0}) AreLogged
    (record {
      known = λ act before known. tt;
      none = λ h t. tt;
      stays = all_stay;
      less = λ h t newest rest are. are.1;
      more = λ c before known are. (inl (refl, refl), all_stay (changes c) before c.txn (pending_of before c.txn) are);
    })
    history tt txn

-- a compensation names a change of its own transaction
pub undone_is_logged : (before : History) (u : Undo) → MayUndo before u → HasLogged before u.undone u.txn
undone_is_logged before u may =
    let are : AreLogged before u.txn (may.last ∷ may.is_last.0) =
    subst (λ (l : List Change). AreLogged before u.txn l) may.is_last.1 (pending_are_logged before u.txn) in
    subst (λ (n : ℕ). HasLogged before n u.txn) (sym may.undone_is) are.0

-- so what is undone is not above the newest record
undone_below : (history : History) (lsn : ℕ) → IsInOrder history → is_undone lsn history ≡ true → lsn ≤ newest_lsn history
undone_below [] lsn in_order undone = absurd (true≢false (sym undone))
undone_below (undoes u ∷ before) lsn in_order undone = elim (or_cases (eqb u.undone lsn) (is_undone lsn before) undone) [
  | inl now ↦
      let named : HasLogged before u.undone u.txn = undone_is_logged before u in_order.1.may_come in
      omega (arith, eqb-true u.undone lsn now, in_order.1.above, logged_below before u.undone u.txn in_order.0 named)
  | inr earlier ↦ omega (arith, in_order.1.above, undone_below before lsn in_order.0 earlier)
]
undone_below (other ∷ before) lsn in_order undone = omega (arith, in_order.1.above, undone_below before lsn in_order.0 undone)

-- and a change that comes now is not undone yet
pub not_undone_yet : (before : History) (lsn : ℕ) → IsInOrder before → newest_lsn before < lsn → is_undone lsn before ≡ false
not_undone_yet before lsn in_order above = false_from_ne_true (is_undone lsn before) (λ undone. omega (arith, above, undone_below before lsn in_order undone))
