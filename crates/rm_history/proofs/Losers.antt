-- The losers of a history in order are the transactions that have a record and are not finished.
use Rattle.std.proofs.Common.{◌≡◌, ◌⊎◌, inl, inr, ℕ, ◌<◌, List, [], ◌∷◌, ◌↔◌, sym, ap, subst, ◌∙◌, arith}
use Rattle.std.proofs.lemmas.Bool.{cases_eq, cases_lt, eq-eqb, ne_eqb, lt-ltb, le-ltb}
use Rattle.rm_history.specs.Acts.{History, changes, undoes, enters, commits, ends, marks}
use Rattle.rm_history.specs.Transactions.{IsFinished, HasRecord}
use Rattle.rm_history.specs.Rules.{IsInOrder}
use Rattle.rm_history.specs.Laws.{LosersAreUnfinished}
use Rattle.rm_history.specs.Losers.{with_number, without_number, losers_of, IsAmong, AreRising}

-- ---- a list with one more number, and without one

-- what holds of the list with the number as its first, as it is, and with the number further back, holds with the number
with_number_cases : (P : List ℕ → Type 0) (n first : ℕ) (rest : List ℕ) → (n < first → P (n ∷ first ∷ rest)) → (n ≡ first → P (first ∷ rest))
    → (first < n → P (first ∷ with_number n rest)) → P (with_number n (first ∷ rest))
with_number_cases P n first rest below same above = elim (cases_lt n first) [
  | inl less ↦ rw (lt-ltb n first less) (below less)
  | inr past ↦ elim (cases_eq n first) [
    | inl is ↦ rw (le-ltb n first past, eq-eqb n first is) (same is)
    | inr other ↦ rw (le-ltb n first past, ne_eqb n first other) (above (omega (arith, other)))
  ]
]

-- what holds of the rest where the number is the first, and of the list with the number taken from the rest, holds without the number
without_number_cases : (P : List ℕ → Type 0) (n first : ℕ) (rest : List ℕ) → (n ≡ first → P rest) → ((n ≡ first → ⊥) → P (first ∷ without_number n rest))
    → P (without_number n (first ∷ rest))
without_number_cases P n first rest same other = elim (cases_eq n first) [
  | inl is ↦ rw (eq-eqb n first is) (same is)
  | inr differs ↦ rw (ne_eqb n first differs) (other differs)
]

-- with it the list has itself, and those that it had
pub with_number_among : (n k : ℕ) (all : List ℕ) → IsAmong (with_number n all) k ↔ ((n ≡ k) ⊎ IsAmong all k)
with_number_among n k [] = (λ among. among, λ among. among)
with_number_among n k (first ∷ rest) =
    let earlier = with_number_among n k rest in
    with_number_cases (λ l. IsAmong l k ↔ ((n ≡ k) ⊎ IsAmong (first ∷ rest) k)) n first rest
    (λ below. (λ among. among, λ among. among))
    (λ same. (λ among. inr among, λ among. elim among [ inl is ↦ inl (sym same ∙ is) | inr had ↦ had ]))
    (λ above. (
      λ among. elim among [ inl here ↦ inr (inl here) | inr there ↦ elim (earlier.0 there) [ inl is ↦ inl is | inr had ↦ inr (inr had) ] ],
      λ among. elim among [
        | inl is ↦ inr (earlier.1 (inl is))
        | inr had ↦ elim had [ inl here ↦ inl here | inr there ↦ inr (earlier.1 (inr there)) ]
      ],
    ))

-- numbers that rise are the same with one of them
pub with_number-kept : (n : ℕ) (all : List ℕ) → AreRising all → IsAmong all n → with_number n all ≡ all
with_number-kept n [] rise among = absurd among
with_number-kept n (first ∷ rest) rise (inl here) = rw (le-ltb n first (omega (arith, here)), eq-eqb n first (sym here))
with_number-kept n (first ∷ rest) rise (inr there) =
    let above : first < n = rise.0 n there in
    rw (le-ltb n first (omega arith), ne_eqb n first (λ same. let less : n ≡ first = same in absurd (omega arith)))
    (ap (λ (l : List ℕ). first ∷ l) (with_number-kept n rest rise.1 there))

-- they rise with one more
with_number-rise : (n : ℕ) (all : List ℕ) → AreRising all → AreRising (with_number n all)
with_number-rise n [] rise = (λ k among. absurd among, tt)
with_number-rise n (first ∷ rest) rise =
    with_number_cases AreRising n first rest
    (λ below. (λ k. elim [ inl here ↦ omega arith | inr there ↦ let more : first < k = rise.0 k there in omega arith ], rise))
    (λ same. rise)
    (λ above. (
      λ k among. elim ((with_number_among n k rest).0 among) [ inl is ↦ omega arith | inr had ↦ rise.0 k had ],
      with_number-rise n rest rise.1,
    ))

-- without it they have those that they had, but not itself
without_number_among : (n k : ℕ) (all : List ℕ) → AreRising all → IsAmong (without_number n all) k ↔ ((n ≡ k → ⊥) × IsAmong all k)
without_number_among n k [] rise = (λ among. absurd among, λ has. has.1)
without_number_among n k (first ∷ rest) rise =
    let earlier = without_number_among n k rest rise.1 in
    without_number_cases (λ l. IsAmong l k ↔ ((n ≡ k → ⊥) × IsAmong (first ∷ rest) k)) n first rest
    (λ same. (
      λ among. (λ is. let more : first < k = rise.0 k among in omega (arith, same, is), inr among),
      λ has. elim has.1 [ inl here ↦ absurd (has.0 (same ∙ here)) | inr there ↦ there ],
    ))
    (λ other. (
      λ among. elim among [ inl here ↦ (λ is. other (is ∙ sym here), inl here) | inr there ↦ ((earlier.0 there).0, inr (earlier.0 there).1) ],
      λ has. elim has.1 [ inl here ↦ inl here | inr there ↦ inr (earlier.1 (has.0, there)) ],
    ))

-- and they rise
without_number-rise : (n : ℕ) (all : List ℕ) → AreRising all → AreRising (without_number n all)
without_number-rise n [] rise = tt
without_number-rise n (first ∷ rest) rise =
    without_number_cases AreRising n first rest (λ same. rise.1)
    (λ other. (λ k among. rise.0 k ((without_number_among n k rest rise.1).0 among).1, without_number-rise n rest rise.1))

-- ---- the losers of a history

-- they stand in order of their ids, each once
pub losers_rise : (history : History) → AreRising (losers_of history)
losers_rise [] = tt
losers_rise (changes c ∷ before) = with_number-rise c.txn (losers_of before) (losers_rise before)
losers_rise (undoes u ∷ before) = with_number-rise u.txn (losers_of before) (losers_rise before)
losers_rise (enters e ∷ before) = with_number-rise e.txn (losers_of before) (losers_rise before)
losers_rise (commits f ∷ before) = without_number-rise f.txn (losers_of before) (losers_rise before)
losers_rise (ends f ∷ before) = without_number-rise f.txn (losers_of before) (losers_rise before)
losers_rise (marks m ∷ before) = losers_rise before

-- a transaction is one where it has a record and is not finished
abbrev IsExact : History → ℕ → Type 0
IsExact history txn = IsAmong (losers_of history) txn ↔ (HasRecord history txn × (IsFinished history txn → ⊥))

-- also after a record of an unfinished transaction,
exact_more : (named txn : ℕ) (before : History) → (IsFinished before named → ⊥) → IsExact before txn
    → IsAmong (with_number named (losers_of before)) txn ↔ (((named ≡ txn) ⊎ HasRecord before txn) × (IsFinished before txn → ⊥))
exact_more named txn before unfinished exact = (
  λ loses. elim ((with_number_among named txn (losers_of before)).0 loses) [
    | inl now ↦ (inl now, subst (λ (t : ℕ). IsFinished before t → ⊥) now unfinished)
    | inr earlier ↦ (inr (exact.0 earlier).0, (exact.0 earlier).1)
  ],
  λ has. (with_number_among named txn (losers_of before)).1 (elim has.0 [ inl now ↦ inl now | inr earlier ↦ inr (exact.1 (earlier, has.1)) ]),
)

-- and after a finish
exact_less : (named txn : ℕ) (before : History) → IsExact before txn
    → IsAmong (without_number named (losers_of before)) txn
    ↔ (((named ≡ txn) ⊎ HasRecord before txn) × ((named ≡ txn) ⊎ IsFinished before txn → ⊥))
exact_less named txn before exact = (
  λ loses.
      let had = (without_number_among named txn (losers_of before) (losers_rise before)).0 loses in
      (inr (exact.0 had.1).0, λ over. elim over [ inl now ↦ had.0 now | inr earlier ↦ (exact.0 had.1).1 earlier ]),
  λ has.
      let record_before : HasRecord before txn = elim has.0 [ inl now ↦ absurd (has.1 (inl now)) | inr earlier ↦ earlier ] in
      (without_number_among named txn (losers_of before) (losers_rise before)).1
      (λ now. has.1 (inl now), exact.1 (record_before, λ earlier. has.1 (inr earlier))),
)

losers_exact : (history : History) → IsInOrder history → (txn : ℕ) → IsExact history txn
losers_exact [] ordered txn = (λ loses. absurd loses, λ has. has.0)
losers_exact (changes c ∷ before) ordered txn = exact_more c.txn txn before ordered.1.may_come.unfinished (losers_exact before ordered.0 txn)
losers_exact (undoes u ∷ before) ordered txn = exact_more u.txn txn before ordered.1.may_come.unfinished (losers_exact before ordered.0 txn)
losers_exact (enters e ∷ before) ordered txn = exact_more e.txn txn before ordered.1.may_come.unfinished (losers_exact before ordered.0 txn)
losers_exact (commits f ∷ before) ordered txn = exact_less f.txn txn before (losers_exact before ordered.0 txn)
losers_exact (ends f ∷ before) ordered txn = exact_less f.txn txn before (losers_exact before ordered.0 txn)
losers_exact (marks m ∷ before) ordered txn = losers_exact before ordered.0 txn

-- so they are the unfinished transactions that have a record
pub losers_are_unfinished : LosersAreUnfinished
losers_are_unfinished = record { rising = losers_rise; exact = losers_exact }
