-- Which changes are pending: whose they are, on which row ids, and in which order.
use Rattle.std.proofs.Common.{◌≡◌, inl, inr, ℕ, ◌<◌, eqb, List, [], ◌∷◌, length, refl, sym, ap, subst, ◌∙◌, arith}
use Rattle.std.specs.List.{AllByRecursion}
use Rattle.std.proofs.lemmas.Bool.{cond_both, cases_eq}
use Rattle.rm_types.specs.declared.numbers.Rid.{Rid}
use Rattle.rm_history.specs.Acts.{Act, Change, Finish, History, changes, undoes, enters, commits, ends, marks}
use Rattle.rm_history.specs.Contents.{page_of}
use Rattle.rm_history.specs.Pending.{pending_of}
use Rattle.rm_history.specs.Transactions.{IsFinished, HasChange}
use Rattle.rm_history.specs.Rules.{MayChange, MayEnd, IsInOrder}
use Rattle.rm_history.specs.Laws.{AreChained, IsChanged, PendingIsChained, PendingIsOfOne}
use Rattle.rm_history.proofs.PendingInduction.{pending_by}
use Rattle.rm_history.proofs.PendingSteps.{if_equal, pending-change_other, pending-undo_other, pending-end_other, length-put, inside-put}

-- ---- changes among others

-- none is on a row id among none
pub changed_none : (pending : List Change) (rid : Rid) → pending ≡ [] → IsChanged pending rid → ⊥
changed_none pending rid none changed = subst (λ (l : List Change). IsChanged l rid) none changed

-- ---- whose they are

-- a finished transaction has nothing pending
pub finished_has_none : (history : History) → IsInOrder history → (txn : ℕ) → IsFinished history txn → pending_of history txn ≡ []
finished_has_none [] ordered txn finished = refl
finished_has_none (changes c ∷ before) ordered txn finished =
    pending-change_other c before txn (λ same. ordered.1.may_come.unfinished (subst (IsFinished before) (sym same) finished))
    ∙ finished_has_none before ordered.0 txn finished
finished_has_none (undoes u ∷ before) ordered txn finished =
    pending-undo_other u before txn (λ same. ordered.1.may_come.unfinished (subst (IsFinished before) (sym same) finished))
    ∙ finished_has_none before ordered.0 txn finished
finished_has_none (enters e ∷ before) ordered txn finished = finished_has_none before ordered.0 txn finished
finished_has_none (commits f ∷ before) ordered txn (inl now) = if_equal f.txn txn [] (pending_of before txn) now
finished_has_none (commits f ∷ before) ordered txn (inr earlier) =
    cond_both (eqb f.txn txn) [] (pending_of before txn) (λ l. l ≡ []) (λ is. refl) (λ is. finished_has_none before ordered.0 txn earlier)
finished_has_none (ends f ∷ before) ordered txn (inl now) = if_equal f.txn txn [] (pending_of before txn) now
finished_has_none (ends f ∷ before) ordered txn (inr earlier) =
    cond_both (eqb f.txn txn) [] (pending_of before txn) (λ l. l ≡ []) (λ is. refl) (λ is. finished_has_none before ordered.0 txn earlier)
finished_has_none (marks m ∷ before) ordered txn finished = finished_has_none before ordered.0 txn finished

-- the end of a rollback leaves what is pending
pub pending-ended : (f : Finish) (before : History) (txn : ℕ) → MayEnd before f → pending_of (ends f ∷ before) txn ≡ pending_of before txn
pending-ended f before txn may = elim (cases_eq f.txn txn) [
  | inl same ↦ if_equal f.txn txn [] (pending_of before txn) same ∙ sym may.none ∙ ap (pending_of before) same
  | inr different ↦ pending-end_other f before txn different
]

-- so a transaction with something pending is not finished
pub changed_unfinished : (history : History) → IsInOrder history → (txn : ℕ) (rid : Rid) → IsChanged (pending_of history txn) rid → IsFinished history txn → ⊥
changed_unfinished history ordered txn rid changed finished = changed_none (pending_of history txn) rid (finished_has_none history ordered txn finished) changed

-- a transaction's pending changes are its own
abbrev pub AreOf : ℕ → List Change → Type 0
AreOf txn pending = AllByRecursion (λ c. c.txn ≡ txn) pending

pub pending_are_of : (history : History) (txn : ℕ) → AreOf txn (pending_of history txn)
pending_are_of history txn =
    pending_by (λ h. Unit {0}) (λ h t pending. AreOf t pending)
    (record {
      known = λ act before known. tt;
      none = λ h t. tt;
      stays = λ act before t pending are. are;
      less = λ h t newest rest are. are.1;
      more = λ c before known are. (refl, are);
    })
    history tt txn

-- ---- on which row ids

-- a change record stays as records come
pub change_stays : (txn : ℕ) (rid : Rid) (act : Act) (before : History) → HasChange before txn rid → HasChange (act ∷ before) txn rid
change_stays txn rid (changes c) before has = inr has
change_stays txn rid (undoes u) before has = has
change_stays txn rid (enters e) before has = has
change_stays txn rid (commits f) before has = has
change_stays txn rid (ends f) before has = has
change_stays txn rid (marks m) before has = has

-- a pending change is a change record of its transaction
pub changed_has_change : (history : History) (txn : ℕ) (rid : Rid) → IsChanged (pending_of history txn) rid → HasChange history txn rid
changed_has_change history txn rid =
    pending_by (λ h. Unit {0}) (λ h t pending. IsChanged pending rid → HasChange h t rid)
    (record {
      known = λ act before known. tt;
      none = λ h t changed. absurd changed;
      stays = λ act before t pending had changed. change_stays t rid act before (had changed);
      less = λ h t newest rest had changed. had (inr changed);
      more = λ c before known had changed. elim changed [ inl now ↦ inl (refl, now) | inr earlier ↦ inr (had earlier) ];
    })
    history tt txn

-- where a change may come, an unfinished transaction with a change record on its row id is its own
changer_is : (before : History) (c : Change) (rid : Rid) (other : ℕ) → MayChange before c → c.rid ≡ rid → HasChange before other rid
    → (IsFinished before other → ⊥) → c.txn ≡ other
changer_is before c rid other may here has unfinished = elim (cases_eq c.txn other) [
  | inl same ↦ same
  | inr differs ↦ absurd (unfinished (may.others other (λ same. differs (sym same)) (subst (HasChange before other) (sym here) has)))
]

-- so two unfinished ones on one row id are one
one_changer : (history : History) → IsInOrder history → (rid : Rid) (txn other : ℕ) → HasChange history txn rid → HasChange history other rid
    → (IsFinished history txn → ⊥) → (IsFinished history other → ⊥) → txn ≡ other
one_changer [] ordered rid txn other has also live too = absurd has
one_changer (changes c ∷ before) ordered rid txn other (inl now) (inl then) live too = sym now.0 ∙ then.0
one_changer (changes c ∷ before) ordered rid txn other (inl now) (inr earlier) live too =
    sym now.0 ∙ changer_is before c rid other ordered.1.may_come now.1 earlier too
one_changer (changes c ∷ before) ordered rid txn other (inr earlier) (inl now) live too =
    sym (changer_is before c rid txn ordered.1.may_come now.1 earlier live) ∙ now.0
one_changer (changes c ∷ before) ordered rid txn other (inr earlier) (inr also) live too = one_changer before ordered.0 rid txn other earlier also live too
one_changer (undoes u ∷ before) ordered rid txn other has also live too = one_changer before ordered.0 rid txn other has also live too
one_changer (enters e ∷ before) ordered rid txn other has also live too = one_changer before ordered.0 rid txn other has also live too
one_changer (commits f ∷ before) ordered rid txn other has also live too =
    one_changer before ordered.0 rid txn other has also (λ finished. live (inr finished)) (λ finished. too (inr finished))
one_changer (ends f ∷ before) ordered rid txn other has also live too =
    one_changer before ordered.0 rid txn other has also (λ finished. live (inr finished)) (λ finished. too (inr finished))
one_changer (marks m ∷ before) ordered rid txn other has also live too = one_changer before ordered.0 rid txn other has also live too

-- two transactions have none pending on one row id
pub pending_is_of_one : PendingIsOfOne
pending_is_of_one history ordered rid txn other changed also =
    one_changer history ordered rid txn other (changed_has_change history txn rid changed) (changed_has_change history other rid also)
    (changed_unfinished history ordered txn rid changed) (changed_unfinished history ordered other rid also)

-- a row id that has a change record is inside of its page's directory
pub changed_inside : (history : History) (txn : ℕ) (rid : Rid) → HasChange history txn rid → rid.slot < length (page_of history rid.page)
changed_inside [] txn rid had = absurd had
changed_inside (changes c ∷ before) txn rid (inl now) =
    subst (λ (r : Rid). r.slot < length (page_of (changes c ∷ before) r.page)) now.1 (inside-put (page_of before) c.rid c.after)
changed_inside (changes c ∷ before) txn rid (inr earlier) =
    omega (arith, changed_inside before txn rid earlier, length-put (page_of before) c.rid c.after rid.page)
changed_inside (undoes u ∷ before) txn rid had = omega (arith, changed_inside before txn rid had, length-put (page_of before) u.rid u.back rid.page)
changed_inside (enters e ∷ before) txn rid had = changed_inside before txn rid had
changed_inside (commits f ∷ before) txn rid had = changed_inside before txn rid had
changed_inside (ends f ∷ before) txn rid had = changed_inside before txn rid had
changed_inside (marks m ∷ before) txn rid had = changed_inside before txn rid had

-- ---- in which order

-- each names the next one
pub pending_is_chained : PendingIsChained
pending_is_chained =
    pending_by IsInOrder (λ h t pending. AreChained pending)
    (record {
      known = λ act before known. known.0;
      none = λ h t. tt;
      stays = λ act before t pending are. are;
      less = λ h t newest rest are. are.1;
      more = λ c before known are. (known.1.may_come.under_is, are);
    })
