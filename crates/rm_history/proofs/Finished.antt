-- Which transactions are finished, and which have a record.
use Rattle.std.proofs.Common.{◌≡◌, ◌⊎◌, inl, inr, ℕ, List, [], ◌∷◌, refl}
use Rattle.std.proofs.lemmas.Bool.{cases_eq}
use Rattle.rm_types.specs.declared.numbers.Rid.{Rid}
use Rattle.rm_history.specs.Acts.{Act, Change, History, changes, undoes, enters, commits, ends, marks}
use Rattle.rm_history.specs.Pending.{pending_of}
use Rattle.rm_history.specs.Transactions.{IsFinished, HasRecord, HasChange}
use Rattle.rm_history.proofs.PendingLaws.{changed_has_change}
use Rattle.rm_history.proofs.Chains.{last_is_changed}

-- a transaction is finished, or it is not
finished_now : (named txn : ℕ) (A : Type 0) → A ⊎ (A → ⊥) → ((named ≡ txn) ⊎ A) ⊎ (((named ≡ txn) ⊎ A) → ⊥)
finished_now named txn A (inl is) = inl (inr is)
finished_now named txn A (inr not) = elim (cases_eq named txn) [
  | inl same ↦ inl (inl same)
  | inr other ↦ inr (λ w. elim w [ inl same ↦ other same | inr is ↦ not is ])
]

pub finished_or_not : (history : History) (txn : ℕ) → IsFinished history txn ⊎ (IsFinished history txn → ⊥)
finished_or_not [] txn = inr (λ finished. finished)
finished_or_not (changes c ∷ before) txn = finished_or_not before txn
finished_or_not (undoes u ∷ before) txn = finished_or_not before txn
finished_or_not (enters e ∷ before) txn = finished_or_not before txn
finished_or_not (commits f ∷ before) txn = finished_now f.txn txn (IsFinished before txn) (finished_or_not before txn)
finished_or_not (ends f ∷ before) txn = finished_now f.txn txn (IsFinished before txn) (finished_or_not before txn)
finished_or_not (marks m ∷ before) txn = finished_or_not before txn

-- a finished transaction has a record
pub finished_has_record : (history : History) (txn : ℕ) → IsFinished history txn → HasRecord history txn
finished_has_record [] txn = λ finished. finished
finished_has_record (changes c ∷ before) txn = λ finished. inr (finished_has_record before txn finished)
finished_has_record (undoes u ∷ before) txn = λ finished. inr (finished_has_record before txn finished)
finished_has_record (enters e ∷ before) txn = λ finished. inr (finished_has_record before txn finished)
finished_has_record (commits f ∷ before) txn = elim [ inl now ↦ inl now | inr earlier ↦ inr (finished_has_record before txn earlier) ]
finished_has_record (ends f ∷ before) txn = elim [ inl now ↦ inl now | inr earlier ↦ inr (finished_has_record before txn earlier) ]
finished_has_record (marks m ∷ before) txn = finished_has_record before txn

-- and so has one with a change
pub change_has_record : (history : History) (txn : ℕ) (rid : Rid) → HasChange history txn rid → HasRecord history txn
change_has_record [] txn rid = λ has. has
change_has_record (changes c ∷ before) txn rid = elim [ inl now ↦ inl now.0 | inr earlier ↦ inr (change_has_record before txn rid earlier) ]
change_has_record (undoes u ∷ before) txn rid = λ has. inr (change_has_record before txn rid has)
change_has_record (enters e ∷ before) txn rid = λ has. inr (change_has_record before txn rid has)
change_has_record (commits f ∷ before) txn rid = λ has. inr (change_has_record before txn rid has)
change_has_record (ends f ∷ before) txn rid = λ has. inr (change_has_record before txn rid has)
change_has_record (marks m ∷ before) txn rid = change_has_record before txn rid

-- a record stays as records come
pub record_stays : (txn : ℕ) (act : Act) (before : History) → HasRecord before txn → HasRecord (act ∷ before) txn
record_stays txn (changes c) before has = inr has
record_stays txn (undoes u) before has = inr has
record_stays txn (enters e) before has = inr has
record_stays txn (commits f) before has = inr has
record_stays txn (ends f) before has = inr has
record_stays txn (marks m) before has = has

-- so a transaction with something pending has one,
pub last_has_record : (history : History) (txn : ℕ) (last : Change) (rest : List Change) → pending_of history txn ≡ last ∷ rest → HasRecord history txn
last_has_record history txn last rest is =
    change_has_record history txn last.rid (changed_has_change history txn last.rid (last_is_changed history txn last rest is))

-- and one without a record has nothing pending
none_of : (history : History) (txn : ℕ) (pending : List Change) → pending_of history txn ≡ pending → (HasRecord history txn → ⊥) → pending ≡ []
none_of history txn [] is free = refl
none_of history txn (last ∷ rest) is free = absurd (free (last_has_record history txn last rest is))

pub unrecorded_has_none : (history : History) (txn : ℕ) → (HasRecord history txn → ⊥) → pending_of history txn ≡ []
unrecorded_has_none history txn free = none_of history txn (pending_of history txn) refl free
