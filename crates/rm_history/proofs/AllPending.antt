-- The pending changes of all transactions in one list, and those of each transaction.
use Rattle.std.proofs.Common.{◌≡◌, inl, inr, ℕ, cond, eqb, List, [], ◌∷◌, refl, sym, ap, ◌∙◌}
use Rattle.std.proofs.lemmas.Bool.{cases_eq, eq-eqb, ne_eqb}
use Rattle.rm_history.specs.Acts.{Change, Undo, Finish, History, changes, undoes, enters, commits, ends, marks}
use Rattle.rm_history.specs.Pending.{older, pending_of, of_txn, without_newest, without, all_pending}

-- the newest of the list is its transaction's newest
pub of_txn-newest : (last : Change) (rest : List Change) → of_txn last.txn (last ∷ rest) ≡ last ∷ of_txn last.txn rest
of_txn-newest last rest = rw (eq-eqb last.txn last.txn refl)

-- ---- without a transaction's newest change, or without all of its changes

-- without its newest it has the older ones
pub of_txn-without_newest : (txn : ℕ) (all : List Change) → of_txn txn (without_newest all txn) ≡ older (of_txn txn all)
of_txn-without_newest txn [] = refl
of_txn-without_newest txn (newest ∷ before) = elim (cases_eq newest.txn txn) [
  | inl same ↦ rw (eq-eqb newest.txn txn same)
  | inr other ↦ rw (ne_eqb newest.txn txn other) (rw (ne_eqb newest.txn txn other) (of_txn-without_newest txn before))
]

-- without the newest of another it has all of its own
pub of_txn-without_newest_other : (txn other : ℕ) (all : List Change) → (other ≡ txn → ⊥) → of_txn txn (without_newest all other) ≡ of_txn txn all
of_txn-without_newest_other txn other [] differs = refl
of_txn-without_newest_other txn other (newest ∷ before) differs = elim (cases_eq newest.txn other) [
  | inl same ↦ rw (eq-eqb newest.txn other same, ne_eqb newest.txn txn (λ is. differs (sym same ∙ is)))
  | inr others ↦ rw (ne_eqb newest.txn other others)
      (ap (λ (rest : List Change). cond (eqb newest.txn txn) (newest ∷ rest) rest) (of_txn-without_newest_other txn other before differs))
]

-- without its changes it has none
pub of_txn-without : (txn : ℕ) (all : List Change) → of_txn txn (without all txn) ≡ []
of_txn-without txn [] = refl
of_txn-without txn (newest ∷ before) = elim (cases_eq newest.txn txn) [
  | inl same ↦ rw (eq-eqb newest.txn txn same) (of_txn-without txn before)
  | inr other ↦ rw (ne_eqb newest.txn txn other) (rw (ne_eqb newest.txn txn other) (of_txn-without txn before))
]

-- without those of another it has all of its own
pub of_txn-without_other : (txn other : ℕ) (all : List Change) → (other ≡ txn → ⊥) → of_txn txn (without all other) ≡ of_txn txn all
of_txn-without_other txn other [] differs = refl
of_txn-without_other txn other (newest ∷ before) differs = elim (cases_eq newest.txn other) [
  | inl same ↦ rw (eq-eqb newest.txn other same, ne_eqb newest.txn txn (λ is. differs (sym same ∙ is))) (of_txn-without_other txn other before differs)
  | inr others ↦ rw (ne_eqb newest.txn other others)
      (ap (λ (rest : List Change). cond (eqb newest.txn txn) (newest ∷ rest) rest) (of_txn-without_other txn other before differs))
]

-- ---- what a transaction has pending

-- after an undo
pending_of_undone : (txn : ℕ) (u : Undo) (mine all : List Change) → mine ≡ of_txn txn all
    → cond (eqb u.txn txn) (older mine) mine ≡ of_txn txn (without_newest all u.txn)
pending_of_undone txn u mine all is = elim (cases_eq u.txn txn) [
  | inl same ↦ rw (eq-eqb u.txn txn same, same) (ap older is ∙ sym (of_txn-without_newest txn all))
  | inr other ↦ rw (ne_eqb u.txn txn other) (is ∙ sym (of_txn-without_newest_other txn u.txn all other))
]

-- after a commit or an end
pending_of_finished : (txn : ℕ) (f : Finish) (mine all : List Change) → mine ≡ of_txn txn all → cond (eqb f.txn txn) [] mine ≡ of_txn txn (without all f.txn)
pending_of_finished txn f mine all is = elim (cases_eq f.txn txn) [
  | inl same ↦ rw (eq-eqb f.txn txn same, same) (sym (of_txn-without txn all))
  | inr other ↦ rw (ne_eqb f.txn txn other) (is ∙ sym (of_txn-without_other txn f.txn all other))
]

-- a transaction's pending changes are those of all that are its own
pub pending_of_all : (history : History) (txn : ℕ) → pending_of history txn ≡ of_txn txn (all_pending history)
pending_of_all [] txn = refl
pending_of_all (changes c ∷ before) txn = ap (λ (rest : List Change). cond (eqb c.txn txn) (c ∷ rest) rest) (pending_of_all before txn)
pending_of_all (undoes u ∷ before) txn = pending_of_undone txn u (pending_of before txn) (all_pending before) (pending_of_all before txn)
pending_of_all (enters e ∷ before) txn = pending_of_all before txn
pending_of_all (commits f ∷ before) txn = pending_of_finished txn f (pending_of before txn) (all_pending before) (pending_of_all before txn)
pending_of_all (ends f ∷ before) txn = pending_of_finished txn f (pending_of before txn) (all_pending before) (pending_of_all before txn)
pending_of_all (marks m ∷ before) txn = pending_of_all before txn

-- the transaction of the newest of all has it as its newest
pub pending_of-newest : (history : History) (last : Change) (rest : List Change) → all_pending history ≡ last ∷ rest
    → pending_of history last.txn ≡ last ∷ of_txn last.txn rest
pending_of-newest history last rest is = pending_of_all history last.txn ∙ ap (of_txn last.txn) is ∙ of_txn-newest last rest

-- where none is pending at all, no transaction has one
pub pending_of-none : (history : History) → all_pending history ≡ [] → (txn : ℕ) → pending_of history txn ≡ []
pending_of-none history none txn = pending_of_all history txn ∙ ap (of_txn txn) none

-- ---- undoing the newest leaves the others

-- without the newest of the list, for its transaction, the list has the rest
pub without_newest-head : (last : Change) (rest : List Change) → without_newest (last ∷ rest) last.txn ≡ rest
without_newest-head last rest = rw (eq-eqb last.txn last.txn refl)
