-- Which changes are pending, and of which transactions they are.
use Rattle.std.proofs.Common.{◌≡◌, ◌⊎◌, inl, inr, ℕ, cond, eqb, List, [], ◌∷◌, sym, ap, ◌∙◌}
use Rattle.std.proofs.lemmas.Bool.{cases_eq, eq-eqb, ne_eqb}
use Rattle.rm_history.specs.Acts.{Change, History, changes, undoes, enters, commits, ends, marks}
use Rattle.rm_history.specs.Losers.{losers_of, without_number, IsAmong}
use Rattle.rm_history.specs.Pending.{all_pending, without, without_newest}
use Rattle.rm_history.proofs.Losers.{with_number_among}
use Rattle.rm_pool.specs.Journals.{IsIn}

-- what holds of each branch, where it is taken, holds of the test's result
pub by_test : {A : Type 0} (P : A → Type 0) (a b : ℕ) (x y : A) → (a ≡ b → P x) → ((a ≡ b → ⊥) → P y) → P (cond (eqb a b) x y)
by_test P a b x y same other = elim (cases_eq a b) [
  | inl is ↦ rw (eq-eqb a b is) (same is)
  | inr differs ↦ rw (ne_eqb a b differs) (other differs)
]

-- the change is one of these
abbrev pub IsOneOf : List Change → Change → Type 0
IsOneOf [] c = ⊥
IsOneOf (first ∷ rest) c = (first ≡ c) ⊎ IsOneOf rest c

older_of : (all : List Change) (txn : ℕ) (c : Change) → IsOneOf (without_newest all txn) c → IsOneOf all c
older_of [] txn c one = one
older_of (newest ∷ before) txn c one =
    by_test (λ (l : List Change). IsOneOf l c → IsOneOf (newest ∷ before) c) newest.txn txn before (newest ∷ without_newest before txn)
    (λ same kept. inr kept)
    (λ other kept. elim kept [ inl here ↦ inl here | inr there ↦ inr (older_of before txn c there) ])
    one

others_of : (all : List Change) (txn : ℕ) (c : Change) → IsOneOf (without all txn) c → IsOneOf all c × (c.txn ≡ txn → ⊥)
others_of [] txn c one = absurd one
others_of (newest ∷ before) txn c one =
    by_test (λ (l : List Change). IsOneOf l c → IsOneOf (newest ∷ before) c × (c.txn ≡ txn → ⊥)) newest.txn txn (without before txn) (newest ∷ without before txn)
    (λ same kept. let rest = others_of before txn c kept in (inr rest.0, rest.1))
    (λ other kept. elim kept [
      | inl here ↦ (inl here, λ same. other (ap (λ (d : Change). d.txn) here ∙ same))
      | inr there ↦ let rest = others_of before txn c there in (inr rest.0, rest.1)
    ])
    one

-- each pending change is in the history
pub pending_in : (history : History) (c : Change) → IsOneOf (all_pending history) c → IsIn (changes c) history
pending_in [] c one = absurd one
pending_in (changes d ∷ before) c (inl here) = inl (ap (λ (e : Change). changes e) (sym here))
pending_in (changes d ∷ before) c (inr there) = inr (pending_in before c there)
pending_in (undoes u ∷ before) c one = inr (pending_in before c (older_of (all_pending before) u.txn c one))
pending_in (enters e ∷ before) c one = inr (pending_in before c one)
pending_in (commits f ∷ before) c one = inr (pending_in before c (others_of (all_pending before) f.txn c one).0)
pending_in (ends f ∷ before) c one = inr (pending_in before c (others_of (all_pending before) f.txn c one).0)
pending_in (marks m ∷ before) c one = inr (pending_in before c one)

-- a number is in the list without another one just where it is in the list
pub among_without : (n k : ℕ) (all : List ℕ) → (k ≡ n → ⊥) → IsAmong all k → IsAmong (without_number n all) k
among_without n k [] other among = absurd among
among_without n k (first ∷ rest) other among =
    by_test (λ (l : List ℕ). IsAmong l k) n first rest (first ∷ without_number n rest)
    (λ same. elim among [ inl here ↦ absurd (other (sym here ∙ sym same)) | inr there ↦ there ])
    (λ differs. elim among [ inl here ↦ inl here | inr there ↦ inr (among_without n k rest other there) ])

pub among_within : (n k : ℕ) (all : List ℕ) → IsAmong (without_number n all) k → IsAmong all k
among_within n k [] among = among
among_within n k (first ∷ rest) among =
    by_test (λ (l : List ℕ). IsAmong l k → IsAmong (first ∷ rest) k) n first rest (first ∷ without_number n rest)
    (λ same kept. inr kept)
    (λ differs kept. elim kept [ inl here ↦ inl here | inr there ↦ inr (among_within n k rest there) ])
    among

-- its transaction is not finished
pub pending_loses : (history : History) (c : Change) → IsOneOf (all_pending history) c → IsAmong (losers_of history) c.txn
pending_loses [] c one = absurd one
pending_loses (changes d ∷ before) c (inl here) = (with_number_among d.txn c.txn (losers_of before)).1 (inl (ap (λ (e : Change). e.txn) here))
pending_loses (changes d ∷ before) c (inr there) = (with_number_among d.txn c.txn (losers_of before)).1 (inr (pending_loses before c there))
pending_loses (undoes u ∷ before) c one =
    (with_number_among u.txn c.txn (losers_of before)).1 (inr (pending_loses before c (older_of (all_pending before) u.txn c one)))
pending_loses (enters e ∷ before) c one = (with_number_among e.txn c.txn (losers_of before)).1 (inr (pending_loses before c one))
pending_loses (commits f ∷ before) c one =
    let kept = others_of (all_pending before) f.txn c one in among_without f.txn c.txn (losers_of before) kept.1 (pending_loses before c kept.0)
pending_loses (ends f ∷ before) c one =
    let kept = others_of (all_pending before) f.txn c one in among_without f.txn c.txn (losers_of before) kept.1 (pending_loses before c kept.0)
pending_loses (marks m ∷ before) c one = pending_loses before c one
