-- The sum of all transactions' needs on a page.
use Rattle.std.proofs.Common.{◌≡◌, ℕ, ◌+◌, ◌<◌, ◌≤◌, ◌^◌, List, sym, ap, ◌∙◌, arith}
use Rattle.rm_history.specs.Acts.{Change, History}
use Rattle.rm_history.specs.Pending.{without, all_pending}
use Rattle.rm_model.specs.Sums.{sum_below}
use Rattle.rm_history.specs.Needs.{on_page, need_for, need_of}
use Rattle.rm_history.specs.Pending.{of_txn}
use Rattle.rm_audit.specs.Parts.{need_in}
use Rattle.rm_model.proofs.Sums.{sum_below-same, sum_below-one, sum_below-more}
use Rattle.rm_history.proofs.AllPending.{of_txn-without, of_txn-without_other, pending_of_all}

-- the sum without the changes of a transaction
pub sum_below-without : (pending : List Change) (page txn n : ℕ) → txn < n
    → sum_below (need_in pending page) n ≡ need_in pending page txn + sum_below (need_in (without pending txn) page) n
sum_below-without pending page txn n inside =
    let others = λ (other : ℕ) (differs : other ≡ txn → ⊥).
    ap (λ (l : List Change). need_for (on_page page l)) (of_txn-without_other other txn pending (λ same. differs (sym same))) in
    let none : need_in (without pending txn) page txn ≡ 0 = ap (λ (l : List Change). need_for (on_page page l)) (of_txn-without txn pending) in
    omega (arith, none, sum_below-one (need_in pending page) (need_in (without pending txn) page) txn n others inside)

-- a number above all transactions
enough : (n : ℕ) × (2 ^ 32 ≤ n)
enough = (2 ^ 32, omega arith)

-- a sum with enough numbers bounds all
pub all_within : (f : ℕ → ℕ) (room : ℕ) → ((n : ℕ) → 2 ^ 32 ≤ n → sum_below f n ≤ room) → (n : ℕ) → sum_below f n ≤ room
all_within f room within n =
    let above : 2 ^ 32 ≤ n + enough.0 = omega (arith, enough.1) in
    omega (arith, within (n + enough.0) above, sum_below-more f n (n + enough.0) (omega arith))

-- and one that is too great is too great for some
pub not_within : (f : ℕ → ℕ) (room : ℕ) → ((n : ℕ) → 2 ^ 32 ≤ n → room < sum_below f n) → ((n : ℕ) → sum_below f n ≤ room) → ⊥
not_within f room above within = absurd (omega (arith, above enough.0 enough.1, within enough.0))

-- the needs of all pending changes are those of a history
pub needs_are : (history : History) (pending : List Change) (page n : ℕ) → pending ≡ all_pending history
    → sum_below (need_in pending page) n ≡ sum_below (λ txn. need_of history txn page) n
needs_are history pending page n is =
    sum_below-same (λ txn. need_of history txn page) (need_in pending page) n
    (λ txn below. ap (λ (l : List Change). need_for (on_page page l)) (ap (of_txn txn) is ∙ sym (pending_of_all history txn)))
