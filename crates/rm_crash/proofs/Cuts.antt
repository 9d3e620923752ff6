-- Histories that are cut in two, and the transactions that commit in them.
use Rattle.std.specs.Prelude.{◌≡◌, ◌⊎◌, ℕ, ◌-◌, List, [], ◌∷◌, ◌++◌, length, map}
use Rattle.std.specs.List.{AllByRecursion}
use Rattle.std.proofs.Common.{inl, inr, refl, sym, ap, subst, arith}
use Rattle.std.proofs.lemmas.List.{drop_all}
use Rattle.rm_history.specs.Acts.{History, commits, ends}
use Rattle.rm_history.specs.Batched.{AreBelow}
use Rattle.rm_history.specs.Rules.{IsInOrder}
use Rattle.rm_history.specs.Transactions.{IsFinished}
use Rattle.rm_core.specs.Below.{Rows}
use Rattle.rm_core.specs.Names.{Event, IsAmong, commits_in, ops_of, order_of, rows_through}
use Rattle.rm_core.specs.Orders.{rows_after}

-- ---- cuts

-- of two cuts of one list one is not after the other
pub either_cut : {A : Type 0} (a b c d : List A) → a ++ b ≡ c ++ d
    → ((mid : List A) × (a ≡ c ++ mid) × (d ≡ mid ++ b)) ⊎ ((mid : List A) × (c ≡ a ++ mid) × (b ≡ mid ++ d))
either_cut [] b c d is = inr (c, refl, is)
either_cut (x ∷ a) b [] d is = inl (x ∷ a, refl, sym is)
either_cut (x ∷ a) b (y ∷ c) d is =
    let first : x ≡ y = cc in
    let rest : a ++ b ≡ c ++ d = cc in
    elim (either_cut a b c d rest) [
      | inl later ↦ inl (later.0, (λ i. first i ∷ later.1 i), later.2)
      | inr earlier ↦ inr (earlier.0, (λ i. sym first i ∷ earlier.1 i), earlier.2)
    ]

pub all_append : {A : Type 0} (P : A → Type 0) (newer more : List A) → AllByRecursion P newer → AllByRecursion P more → AllByRecursion P (newer ++ more)
all_append P [] more all rest = rest
all_append P (newest ∷ newer) more all rest = (all.0, all_append P newer more all.1 rest)

pub all_after : {A : Type 0} (P : A → Type 0) (newer more : List A) → AllByRecursion P (newer ++ more) → AllByRecursion P more
all_after P [] more all = all
all_after P (newest ∷ newer) more all = all_after P newer more all.1

pub below_after : (pages : ℕ) (newer before : History) → AreBelow pages (newer ++ before) → AreBelow pages before
below_after pages [] before all = all
below_after pages (newest ∷ newer) before all = below_after pages newer before all.1

-- ---- commits

-- the transactions that commit, the newest first
abbrev pub committed_in : History → List ℕ
committed_in [] = []
committed_in (commits f ∷ before) = f.txn ∷ committed_in before
committed_in (act ∷ before) = committed_in before

pub committed_both : (newer more : History) → committed_in (newer ++ more) ≡ committed_in newer ++ committed_in more
committed_both [] more = refl
committed_both (commits f ∷ newer) more = ap (λ (l : List ℕ). f.txn ∷ l) (committed_both newer more)
committed_both (act ∷ newer) more = committed_both newer more

pub commits_counted : (history : History) → commits_in history ≡ length (committed_in history)
commits_counted [] = refl
commits_counted (commits f ∷ before) = omega (arith, commits_counted before)
commits_counted (act ∷ before) = commits_counted before

pub among_either : (first more : List ℕ) (txn : ℕ) → IsAmong (first ++ more) txn → IsAmong first txn ⊎ IsAmong more txn
among_either [] more txn is = inr is
among_either (one ∷ first) more txn (inl now) = inl (inl now)
among_either (one ∷ first) more txn (inr is) = elim (among_either first more txn is) [ inl there ↦ inl (inr there) | inr past ↦ inr past ]

pub among_first : (first more : List ℕ) (txn : ℕ) → IsAmong first txn → IsAmong (first ++ more) txn
among_first [] more txn is = absurd is
among_first (one ∷ first) more txn (inl now) = inl now
among_first (one ∷ first) more txn (inr is) = inr (among_first first more txn is)

pub finished_later : (newer before : History) (txn : ℕ) → IsFinished before txn → IsFinished (newer ++ before) txn
finished_later [] before txn is = is
finished_later (commits f ∷ newer) before txn is = inr (finished_later newer before txn is)
finished_later (ends f ∷ newer) before txn is = inr (finished_later newer before txn is)
finished_later (act ∷ newer) before txn is = finished_later newer before txn is

-- what is finished does not commit again
pub not_again : (newer before : History) (txn : ℕ) → IsInOrder (newer ++ before) → IsFinished before txn → IsAmong (committed_in newer) txn → ⊥
not_again [] before txn ordered is again = again
not_again (commits f ∷ newer) before txn ordered is (inl now) =
    ordered.1.may_come (subst (IsFinished (newer ++ before)) (sym now) (finished_later newer before txn is))
not_again (commits f ∷ newer) before txn ordered is (inr again) = not_again newer before txn ordered.0 is again
not_again (act ∷ newer) before txn ordered is again = not_again newer before txn ordered.0 is again

-- the rows after none of the transactions
pub after_none : (rows : Rows) (trace : List Event) (n : ℕ) → n ≡ 0 → rows_after rows trace n ≡ rows
after_none rows trace n is =
    ap (λ (first : List ℕ). rows_through rows (map (ops_of trace) first)) (drop_all (length (order_of trace) - n) (order_of trace) (omega (arith, is)))
