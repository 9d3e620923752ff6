-- What the tables tell of a session.
use Rattle.rm_desk.proofs.Names.{◌≡◌, ℕ, zero, suc, ◌+◌, ◌<◌, ◌≤◌, inl, inr, if◌then◌else◌, ◌==◌, Bool, true, false, List, [], ◌∷◌, map, length, Option, Some, None}
use Rattle.rm_desk.proofs.Names.{IfSome, refl, sym, ap, subst, ◌∙◌, arith, nat_tests, cases_eq, cases_lt, Setting, Sessions, Tables, seat_at, Change, pending_of, last_of}
use Rattle.rm_desk.proofs.Names.{need_of, others_need, need_in, with_need, greatest_txn, need_for, on_page, sum_below, sum_below-same, CAPACITY, AreKept, IsInside, stack_at}
use Rattle.rm_desk.proofs.Names.{PendingChange, first_of, rest_of, top_of, noted_of, newest_in, under_in, first_from}
use Rattle.rm_model.proofs.Sums.{sum_below-at}
use Rattle.rm_desk.specs.Desks.{Stands}
use Rattle.rm_desk.proofs.Keeping.{pending_past}
use Rattle.rm_desk.proofs.Names.{TxnId, Txn, number_of, option_map, txn_of, seat_from, stage_at}
use Rattle.rm_desk.proofs.Standing.{pending_is, txn_is}

-- ---- what is pending

first_is : (pending : List Change) → first_of (map noted_of pending) ≡ newest_in pending
first_is [] = refl
first_is (last ∷ rest) = refl

top_is : (pending : List Change) → top_of (map noted_of pending) ≡ last_of pending
top_is [] = refl
top_is (last ∷ rest) = refl

module _ (m : Setting) (t : Tables) (s : Sessions) (stands : Stands m t s) where
  pub number_is : (k : ℕ) → k < length s.seats → (found : Option TxnId) → found ≡ option_map (λ txn. txn.id) (txn_of t.table (k + 1)) → number_of found ≡ (seat_at s.seats k).txn
  number_is k known found is = ap number_of is ∙ by (txn_of t.table (k + 1)) ∙ sym (txn_is m t s stands k known)
    where
      by : (txn : Option Txn) → number_of (option_map (λ txn. txn.id) txn) ≡ (seat_from txn (stage_at t k)).txn
      by txn = grind (arith, nat_tests)

  module _ (k : ℕ) (known : k < length s.seats) (some : (seat_at s.seats k).txn ≡ 0 → ⊥) where
    abbrev pending : List Change
    pending = pending_of s.history (seat_at s.seats k).txn

    its : AreKept m.pages pending
    its = stands.kept.chained (seat_at s.seats k).txn

    pub newest_is : (found : Option PendingChange) → found ≡ first_of (stack_at t.stacks k).changes → (found ≡ newest_in pending) × IfSome found (λ last. IsInside m.pages last.rid)
    newest_is found is =
        let found_is : found ≡ newest_in pending = is ∙ ap first_of (pending_is m t s stands k known some) ∙ first_is pending in
        (found_is, subst (λ (f : Option PendingChange). IfSome f (λ last. IsInside m.pages last.rid)) (sym found_is) (by pending its))
      where
        by : (pending : List Change) → AreKept m.pages pending → IfSome (newest_in pending) (λ last. IsInside m.pages last.rid)
        by [] kept = tt
        by (last ∷ rest) kept = kept.0.inside

    pub last_is : (lsn : ℕ) → lsn ≡ top_of (stack_at t.stacks k).changes → lsn ≡ last_of pending
    last_is lsn is = is ∙ ap top_of (pending_is m t s stands k known some) ∙ top_is pending

    pub under_is : (lsn : ℕ) → lsn ≡ top_of (rest_of (stack_at t.stacks k).changes) → (lsn ≡ under_in pending) × IfSome (newest_in pending) (λ last. lsn < last.lsn.0)
    under_is lsn is = by pending its (is ∙ ap (λ (l : List PendingChange). top_of (rest_of l)) (pending_is m t s stands k known some))
      where
        by : (pending : List Change) → AreKept m.pages pending → lsn ≡ top_of (rest_of (map noted_of pending)) → (lsn ≡ under_in pending) × IfSome (newest_in pending) (λ last. lsn < last.lsn.0)
        by [] kept is = (is, tt)
        by (last ∷ rest) kept is = (is ∙ top_is rest ∙ sym kept.0.under, omega (arith, is, top_is rest, kept.0.falls))

  -- ---- needs

  pub others_is : (page txn sum : ℕ) → ((n : ℕ) → ((other : ℕ) → n ≤ other → need_in t.needs page other ≡ 0) → sum ≡ sum_below (with_need t.needs page txn 0) n)
      → sum ≡ others_need s.history txn page
  others_is page txn sum is =
      is (greatest_txn s.history + 1) (λ other past. stands.needed page other ∙ ap (λ (l : List Change). need_for (on_page page l)) (pending_past s.history other (omega arith)))
      ∙ sum_below-same (λ other. if other == txn then 0 else need_of s.history other page) (with_need t.needs page txn 0) (greatest_txn s.history + 1)
      (λ other below. ap (λ n. if other == txn then 0 else n) (stands.needed page other))

  pub need_within : (page txn : ℕ) → need_of s.history txn page ≤ CAPACITY
  need_within page txn = omega (arith, stands.kept.fits page (txn + 1), sum_below-at (λ other. need_of s.history other page) txn (txn + 1) (omega arith))

-- ---- the first of some numbers

none_from : (test : ℕ → Bool) (from n : ℕ) → ((i : ℕ) → from ≤ i → i < from + n → test i ≡ false) → first_from test from n ≡ None
none_from test from zero none = refl
none_from test from (suc n) none = rw (none from (omega arith) (omega arith)) (none_from test (suc from) n (λ i above below. none i (omega arith) (omega arith)))

pub first_none : (test : ℕ → Bool) (n : ℕ) → ((i : ℕ) → i < n → test i ≡ false) → None ≡ first_from test 0 n
first_none test n none = sym (none_from test 0 n (λ i above below. none i (omega arith)))

some_from : (test : ℕ → Bool) (from n at : ℕ) → from ≤ at → at < from + n → ((i : ℕ) → from ≤ i → i < at → test i ≡ false) → test at ≡ true → first_from test from n ≡ Some at
some_from test from zero at above below none is = absurd (omega arith)
some_from test from (suc n) at above below none is = elim (cases_eq from at) [
  | inl here ↦ rw (ap test here ∙ is) (ap Some here)
  | inr other ↦ let lower : from < at = omega (arith, above, other) in
      rw (none from (omega arith) lower) (some_from test (suc from) n at lower (omega arith) (λ i above below. none i (omega arith) below) is)
]

pub first_some : (test : ℕ → Bool) (n at : ℕ) → at < n → ((i : ℕ) → i < at → test i ≡ false) → test at ≡ true → Some at ≡ first_from test 0 n
first_some test n at below none is = sym (some_from test 0 n at (omega arith) (omega arith) (λ i above less. none i less) is)

pub more_passed : (test : ℕ → Bool) (j : ℕ) → ((i : ℕ) → i < j → test i ≡ false) → test j ≡ false → (i : ℕ) → i < j + 1 → test i ≡ false
more_passed test j before here i below = elim (cases_lt i j) [ inl less ↦ before i less | inr not ↦ let same : i ≡ j = omega (arith, below, not) in ap test same ∙ here ]
