-- What a row id holds leads back, pending change by pending change, to its committed row; what this says of the last one.
use Rattle.std.proofs.Common.{◌≡◌, inl, inr, ℕ, ◌<◌, List, [], ◌∷◌, length, Option, refl, sym, subst, ◌∙◌}
use Rattle.rm_types.specs.declared.numbers.Rid.{Rid}
use Rattle.rm_types.specs.declared.slots.Slot.{Slot}
use Rattle.rm_model.specs.Pages.{slot_at}
use Rattle.rm_history.specs.Acts.{Change, Undo, Finish, History, changes, undoes, enters, commits, ends, marks}
use Rattle.rm_history.specs.Contents.{page_of}
use Rattle.rm_history.specs.Pending.{pending_of, of_txn, without_newest, without, all_pending}
use Rattle.rm_history.specs.Transactions.{IsFinished}
use Rattle.rm_history.specs.Rows.{rows_of_log}
use Rattle.rm_history.specs.Rules.{MayChange, MayUndo, IsInOrder}
use Rattle.rm_history.specs.Laws.{IsChanged}
use Rattle.rm_history.proofs.PendingSteps.{cases_rid, slot_at-put, slot_at-put_other}
use Rattle.rm_history.proofs.PendingLaws.{AreOf, pending_are_of, changed_has_change, changed_unfinished, changed_none, changed_inside, pending_is_of_one}
use Rattle.rm_history.proofs.AllPending.{pending_of_all}
use Rattle.rm_history.proofs.LeadsBack.{LeadsBack, unchanged_leads, cases_changed, applied_leads, applied_free}
use Rattle.rm_history.proofs.ChainSteps.{OnlyOf, only_of, none_left, without_leads, of_txn_leads, newest_leads, newest_back}

-- what a row id holds
abbrev pub held_in : History → Rid → Slot
held_in history rid = slot_at (page_of history rid.page) rid.slot

-- what it holds leads back, through all that is pending, to the committed row
abbrev Leads : History → Rid → Type 0
Leads history rid = LeadsBack rid (held_in history rid) (all_pending history) (rows_of_log history rid)

-- from what is the same
from_same : (rid : Rid) (held other : Slot) (pending : List Change) (row : Option (List ℕ)) → held ≡ other → LeadsBack rid held pending row
    → LeadsBack rid other pending row
from_same rid held other pending row same leads = subst (λ (s : Slot). LeadsBack rid s pending row) same leads

-- where a transaction has one pending, no other has
only_there : (history : History) → IsInOrder history → (rid : Rid) (txn : ℕ) → IsChanged (pending_of history txn) rid → OnlyOf rid txn (all_pending history)
only_there history ordered rid txn changed =
    only_of rid txn (all_pending history) (λ other also.
    pending_is_of_one history ordered rid txn other changed (subst (λ (l : List Change). IsChanged l rid) (sym (pending_of_all history other)) also))

-- ---- record by record

leads_change : (c : Change) (before : History) → MayChange before c → (rid : Rid) → Leads before rid → Leads (changes c ∷ before) rid
leads_change c before may rid leads = elim (cases_rid c.rid rid) [
  | inl here ↦
      let found : held_in before rid ≡ c.before = subst (λ (r : Rid). held_in before r ≡ c.before) here may.held in
      let left : c.after ≡ held_in (changes c ∷ before) rid =
      subst (λ (r : Rid). c.after ≡ held_in (changes c ∷ before) r) here (sym (slot_at-put (page_of before) c.rid c.after)) in
      inl (here, left, from_same rid (held_in before rid) c.before (all_pending before) (rows_of_log before rid) found leads)
  | inr other ↦
      let same : held_in before rid ≡ held_in (changes c ∷ before) rid = sym (slot_at-put_other (page_of before) c.rid rid c.after other) in
      inr (other, from_same rid (held_in before rid) (held_in (changes c ∷ before) rid) (all_pending before) (rows_of_log before rid) same leads)
]

leads_undo : (u : Undo) (before : History) → IsInOrder before → MayUndo before u → (rid : Rid) → Leads before rid → Leads (undoes u ∷ before) rid
leads_undo u before ordered may rid leads =
    let all : List Change = all_pending before in
    let row : Option (List ℕ) = rows_of_log before rid in
    let new : Slot = held_in (undoes u ∷ before) rid in
    let its : of_txn u.txn all ≡ may.last ∷ may.is_last.0 = sym (pending_of_all before u.txn) ∙ may.is_last.1 in
    elim (cases_rid u.rid rid) [
      | inl here ↦
          let there : may.last.rid ≡ rid = sym may.rid_is ∙ here in
          let changed : IsChanged (pending_of before u.txn) rid = subst (λ (l : List Change). IsChanged l rid) (sym may.is_last.1) (inl there) in
          let back : u.back ≡ new = subst (λ (r : Rid). u.back ≡ held_in (undoes u ∷ before) r) here (sym (slot_at-put (page_of before) u.rid u.back)) in
          from_same rid may.last.before new (without_newest all u.txn) row (sym may.back_is ∙ back)
          (newest_back rid u.txn may.last may.is_last.0 all row its (only_there before ordered rid u.txn changed) there (held_in before rid) leads)
      | inr other ↦
          from_same rid (held_in before rid) new (without_newest all u.txn) row (sym (slot_at-put_other (page_of before) u.rid rid u.back other))
          (newest_leads rid u.txn may.last may.is_last.0 all row its (λ here. other (may.rid_is ∙ here)) (held_in before rid) leads)
    ]

-- a finish that takes none on the row id
leads_without : (f : Finish) (before : History) (rid : Rid) → (IsChanged (pending_of before f.txn) rid → ⊥) → Leads before rid
    → LeadsBack rid (held_in before rid) (without (all_pending before) f.txn) (rows_of_log before rid)
leads_without f before rid free leads =
    without_leads rid f.txn (all_pending before) (rows_of_log before rid)
    (λ changed. free (subst (λ (l : List Change). IsChanged l rid) (sym (pending_of_all before f.txn)) changed)) (held_in before rid) leads

-- through the changes of the one transaction that has some there
pub leads_of : (history : History) → IsInOrder history → (rid : Rid) (txn : ℕ) → IsChanged (pending_of history txn) rid → Leads history rid
    → LeadsBack rid (held_in history rid) (pending_of history txn) (rows_of_log history rid)
leads_of history ordered rid txn changed leads =
    subst (λ (l : List Change). LeadsBack rid (held_in history rid) l (rows_of_log history rid)) (sym (pending_of_all history txn))
    (of_txn_leads rid txn (all_pending history) (rows_of_log history rid) (only_there history ordered rid txn changed) (held_in history rid) leads)

leads_commit : (f : Finish) (before : History) → IsInOrder before → (rid : Rid) → Leads before rid → Leads (commits f ∷ before) rid
leads_commit f before ordered rid leads = elim (cases_changed (pending_of before f.txn) rid) [
  | inl changed ↦
      unchanged_leads rid (held_in before rid) (without (all_pending before) f.txn) (rows_of_log (commits f ∷ before) rid)
      (none_left rid f.txn (all_pending before) (only_there before ordered rid f.txn changed))
      (applied_leads (rows_of_log before) rid (held_in before rid) (pending_of before f.txn) (leads_of before ordered rid f.txn changed leads))
  | inr free ↦
      subst (λ (row : Option (List ℕ)). LeadsBack rid (held_in before rid) (without (all_pending before) f.txn) row)
      (sym (applied_free (rows_of_log before) rid (pending_of before f.txn) free)) (leads_without f before rid free leads)
]

pub all_lead : (history : History) → IsInOrder history → (rid : Rid) → Leads history rid
all_lead [] ordered rid = refl
all_lead (changes c ∷ before) ordered rid = leads_change c before ordered.1.may_come rid (all_lead before ordered.0 rid)
all_lead (undoes u ∷ before) ordered rid = leads_undo u before ordered.0 ordered.1.may_come rid (all_lead before ordered.0 rid)
all_lead (enters e ∷ before) ordered rid = all_lead before ordered.0 rid
all_lead (commits f ∷ before) ordered rid = leads_commit f before ordered.0 rid (all_lead before ordered.0 rid)
all_lead (ends f ∷ before) ordered rid =
    leads_without f before rid (changed_none (pending_of before f.txn) rid ordered.1.may_come.none) (all_lead before ordered.0 rid)
all_lead (marks m ∷ before) ordered rid = all_lead before ordered.0 rid

pub leads_back : (history : History) → IsInOrder history → (rid : Rid) (txn : ℕ) → IsChanged (pending_of history txn) rid
    → LeadsBack rid (held_in history rid) (pending_of history txn) (rows_of_log history rid)
leads_back history ordered rid txn changed = leads_of history ordered rid txn changed (all_lead history ordered rid)

-- ---- a transaction's last pending change

-- it is on its row id
pub last_is_changed : (history : History) (txn : ℕ) (last : Change) (rest : List Change) → pending_of history txn ≡ last ∷ rest
    → IsChanged (pending_of history txn) last.rid
last_is_changed history txn last rest is = subst (λ (l : List Change). IsChanged l last.rid) (sym is) (inl refl)

-- it left what its row id holds
left_there : (last : Change) (rest : List Change) (history : History)
    → LeadsBack last.rid (held_in history last.rid) (last ∷ rest) (rows_of_log history last.rid) → held_in history last.rid ≡ last.after
left_there last rest history (inl here) = sym here.1
left_there last rest history (inr elsewhere) = absurd (elsewhere.0 refl)

pub last_is_held : (history : History) → IsInOrder history → (txn : ℕ) (last : Change) (rest : List Change) → pending_of history txn ≡ last ∷ rest
    → slot_at (page_of history last.rid.page) last.rid.slot ≡ last.after
last_is_held history ordered txn last rest is =
    left_there last rest history
    (subst (λ (l : List Change). LeadsBack last.rid (held_in history last.rid) l (rows_of_log history last.rid)) is
    (leads_back history ordered last.rid txn (last_is_changed history txn last rest is)))

-- its slot is inside of its page's directory, as that of each pending change is
pub changed_is_inside : (history : History) (txn : ℕ) (rid : Rid) → IsChanged (pending_of history txn) rid → rid.slot < length (page_of history rid.page)
changed_is_inside history txn rid changed = changed_inside history txn rid (changed_has_change history txn rid changed)

pub last_is_inside : (history : History) (txn : ℕ) (last : Change) (rest : List Change) → pending_of history txn ≡ last ∷ rest
    → last.rid.slot < length (page_of history last.rid.page)
last_is_inside history txn last rest is = changed_is_inside history txn last.rid (last_is_changed history txn last rest is)

-- it is of its transaction, as the rest are
pub last_is_of : (history : History) (txn : ℕ) (last : Change) (rest : List Change) → pending_of history txn ≡ last ∷ rest → last.txn ≡ txn
last_is_of history txn last rest is = (subst (AreOf txn) is (pending_are_of history txn)).0

pub rest_is_of : (history : History) (txn : ℕ) (last : Change) (rest : List Change) → pending_of history txn ≡ last ∷ rest → AreOf txn rest
rest_is_of history txn last rest is = (subst (AreOf txn) is (pending_are_of history txn)).1

-- the transaction is not finished
pub last_is_unfinished : (history : History) → IsInOrder history → (txn : ℕ) (last : Change) (rest : List Change)
    → pending_of history txn ≡ last ∷ rest → IsFinished history txn → ⊥
last_is_unfinished history ordered txn last rest is = changed_unfinished history ordered txn last.rid (last_is_changed history txn last rest is)
