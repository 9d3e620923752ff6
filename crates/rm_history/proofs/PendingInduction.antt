-- What holds of the pending changes of each transaction, by induction over the records of a history.
use Rattle.std.proofs.Common.{inl, inr, ℕ, eqb, List, [], ◌∷◌, sym, subst}
use Rattle.std.proofs.lemmas.Bool.{cond_both, cases_eq}
use Rattle.rm_history.specs.Acts.{Act, Change, History, changes, undoes, enters, commits, ends, marks}
use Rattle.rm_history.specs.Pending.{older, pending_of}
use Rattle.rm_history.proofs.PendingSteps.{pending-change, pending-change_other}

-- What is to be shown of a property of what a transaction has pending, where this is known of the history: it holds of nothing, it stays
-- as records come, it holds of the older ones where it holds of all, and of a change with what its transaction has pending.
pub record Inducts (Known : History → Type 0) (P : History → ℕ → List Change → Type 0) : Type 0 where
  pub known : (act : Act) (before : History) → Known (act ∷ before) → Known before
  pub none : (history : History) (txn : ℕ) → P history txn []
  pub stays : (act : Act) (before : History) (txn : ℕ) (pending : List Change) → P before txn pending → P (act ∷ before) txn pending
  pub less : (history : History) (txn : ℕ) (newest : Change) (rest : List Change) → P history txn (newest ∷ rest) → P history txn rest
  pub more : (c : Change) (before : History) → Known (changes c ∷ before) → P before c.txn (pending_of before c.txn)
      → P (changes c ∷ before) c.txn (c ∷ pending_of before c.txn)

without_the_newest : (Known : History → Type 0) (P : History → ℕ → List Change → Type 0) → Inducts Known P → (history : History) (txn : ℕ)
    (pending : List Change) → P history txn pending → P history txn (older pending)
without_the_newest Known P by history txn [] holds = holds
without_the_newest Known P by history txn (newest ∷ rest) holds = by.less history txn newest rest holds

by_act : (Known : History → Type 0) (P : History → ℕ → List Change → Type 0) → Inducts Known P → (act : Act) (before : History) → Known (act ∷ before)
    → (txn : ℕ) → ((any : ℕ) → P before any (pending_of before any)) → P (act ∷ before) txn (pending_of before txn)
    → P (act ∷ before) txn (pending_of (act ∷ before) txn)
by_act Known P by (changes c) before known txn earlier same = elim (cases_eq c.txn txn) [
  | inl mine ↦
      let here = subst (P (changes c ∷ before) c.txn) (sym (pending-change c before)) (by.more c before known (earlier c.txn)) in
      subst (λ (t : ℕ). P (changes c ∷ before) t (pending_of (changes c ∷ before) t)) mine here
  | inr other ↦ subst (P (changes c ∷ before) txn) (sym (pending-change_other c before txn other)) same
]
by_act Known P by (undoes u) before known txn earlier same =
    cond_both (eqb u.txn txn) (older (pending_of before txn)) (pending_of before txn) (P (undoes u ∷ before) txn)
    (λ is. without_the_newest Known P by (undoes u ∷ before) txn (pending_of before txn) same) (λ is. same)
by_act Known P by (enters e) before known txn earlier same = same
by_act Known P by (commits f) before known txn earlier same =
    cond_both (eqb f.txn txn) [] (pending_of before txn) (P (commits f ∷ before) txn) (λ is. by.none (commits f ∷ before) txn) (λ is. same)
by_act Known P by (ends f) before known txn earlier same =
    cond_both (eqb f.txn txn) [] (pending_of before txn) (P (ends f ∷ before) txn) (λ is. by.none (ends f ∷ before) txn) (λ is. same)
by_act Known P by (marks m) before known txn earlier same = same

pub pending_by : (Known : History → Type 0) (P : History → ℕ → List Change → Type 0) → Inducts Known P → (history : History) → Known history
    → (txn : ℕ) → P history txn (pending_of history txn)
pending_by Known P by [] known txn = by.none [] txn
pending_by Known P by (act ∷ before) known txn =
    let earlier : (any : ℕ) → P before any (pending_of before any) = pending_by Known P by before (by.known act before known) in
    let same : P (act ∷ before) txn (pending_of before txn) = by.stays act before txn (pending_of before txn) (earlier txn) in
    by_act Known P by act before known txn earlier same
