-- What fits is exactly what leaves each page room.
use Rattle.std.proofs.Common.{◌≡◌, ℕ, zero, suc, ◌+◌, ◌-◌, ◌==◌, if◌then◌else◌, ◌<◌, ◌≤◌, List, [], ◌∷◌, length, inl, inr}
use Rattle.std.proofs.Common.{refl, sym, ap, subst, ◌∙◌, arith}
use Rattle.std.proofs.lemmas.Bool.{cases_eq, cases_lt, eq-eqb, ne_eqb}
use Rattle.std.proofs.lemmas.List.{get_or_past}
use Rattle.rm_types.specs.declared.slots.Slot.{Slot}
use Rattle.rm_types.specs.declared.slots.Slot.TheVariants.{Vacant, Row}
use Rattle.rm_types.specs.declared.slots.TheConstants.{CAPACITY}
use Rattle.rm_model.specs.Pages.{used, row_length, set_slot, slot_at}
use Rattle.rm_model.proofs.Slots.{used-set_slot}
use Rattle.rm_history.specs.Acts.{Change, History, changes, undoes, enters, commits, ends, marks}
use Rattle.rm_history.specs.Contents.{page_of}
use Rattle.rm_history.specs.Pending.{older, pending_of}
use Rattle.rm_history.specs.Transactions.{greatest_txn}
use Rattle.rm_model.specs.Sums.{sum_below}
use Rattle.rm_history.specs.Needs.{on_page, need_for, need_of, FitsOn, Fits}
use Rattle.rm_history.specs.Room.{others_need, growth_for}
use Rattle.rm_history.specs.RoomLaws.{FittingIsRoom}
use Rattle.rm_model.proofs.Sums.{sum_below-same, sum_below-one, sum_below-more}
use Rattle.rm_history.proofs.NeedSums.{need_of-change}
use Rattle.rm_history.proofs.NeedSums.{need_of-change_other, pending_on-change, fits_as_before}
use Rattle.rm_history.proofs.PendingSteps.{if_different}

-- ---- sums over all numbers but one

-- a function that is 0 at one number, and otherwise as before
abbrev but : ℕ → (ℕ → ℕ) → ℕ → ℕ
but one f k = if k == one then 0 else f k

-- there it is 0
but-one : (one : ℕ) (f : ℕ → ℕ) → but one f one ≡ 0
but-one one f = rw (eq-eqb one one refl)

-- and elsewhere as before
but-other : (one : ℕ) (f : ℕ → ℕ) (k : ℕ) → (k ≡ one → ⊥) → but one f k ≡ f k
but-other one f k other = rw (ne_eqb k one other)

-- two functions that agree elsewhere are then the same
but-same : (f g : ℕ → ℕ) (one : ℕ) → ((k : ℕ) → (k ≡ one → ⊥) → g k ≡ f k) → (k : ℕ) → but one g k ≡ but one f k
but-same f g one same k = elim (cases_eq k one) [
  | inl here ↦ rw (eq-eqb k one here)
  | inr other ↦ rw (ne_eqb k one other) (same k other)
]

-- a sum past the number is that without it, and what stands there
sum_below-past : (f : ℕ → ℕ) (one n : ℕ) → one < n → sum_below f n ≡ sum_below (but one f) n + f one
sum_below-past f one n below = omega (arith, sum_below-one f (but one f) one n (but-other one f) below, but-one one f)

-- and no sum is more
sum_below-most : (f : ℕ → ℕ) (one n : ℕ) → sum_below f n ≤ sum_below (but one f) n + f one
sum_below-most f one n = elim (cases_lt one n) [
  | inl below ↦ omega (arith, sum_below-past f one n below)
  | inr past ↦ omega (arith, sum_below-same f (but one f) n (λ k under. but-other one f k (omega (arith, under, past))))
]

-- no sum of a function that is 0 from a bound on is more than that below the bound
sum_below-bounded : (f : ℕ → ℕ) (bound n : ℕ) → ((k : ℕ) → bound ≤ k → f k ≡ 0) → sum_below f n ≤ sum_below f bound
sum_below-bounded f bound zero none = omega arith
sum_below-bounded f bound (suc n) none = elim (cases_lt n bound) [
  | inl below ↦ sum_below-more f (suc n) bound (omega (arith, below))
  | inr past ↦ omega (arith, none n past, sum_below-bounded f bound n none)
]

-- without the one it is 0 from there on too
but-none : (f : ℕ → ℕ) (one bound : ℕ) → ((k : ℕ) → bound ≤ k → f k ≡ 0) → (k : ℕ) → bound ≤ k → but one f k ≡ 0
but-none f one bound none k past = elim (cases_eq k one) [
  | inl here ↦ rw (eq-eqb k one here)
  | inr other ↦ but-other one f k other ∙ none k past
]

-- where the sum over the others leaves room for what stands at the one, each sum has room;
all_fit : (f g : ℕ → ℕ) (one bound bytes : ℕ) → ((k : ℕ) → (k ≡ one → ⊥) → g k ≡ f k) → ((k : ℕ) → bound ≤ k → f k ≡ 0)
    → bytes + sum_below (but one f) bound + g one ≤ CAPACITY → (n : ℕ) → bytes + sum_below g n ≤ CAPACITY
all_fit f g one bound bytes same none fits n =
    let others : sum_below (but one g) n ≡ sum_below (but one f) n = sum_below-same (but one f) (but one g) n (λ k under. but-same f g one same k) in
    omega (arith, fits, others, sum_below-bounded (but one f) bound n (but-none f one bound none), sum_below-most g one n)

-- and where each has, so has the one that is past the bound and past the one
others_fit : (f g : ℕ → ℕ) (one bound bytes : ℕ) → ((k : ℕ) → (k ≡ one → ⊥) → g k ≡ f k) → ((n : ℕ) → bytes + sum_below g n ≤ CAPACITY)
    → bytes + sum_below (but one f) bound + g one ≤ CAPACITY
others_fit f g one bound bytes same fits =
    let n : ℕ = bound + suc one in
    let others : sum_below (but one g) n ≡ sum_below (but one f) n = sum_below-same (but one f) (but one g) n (λ k under. but-same f g one same k) in
    omega (arith, fits n, others, sum_below-more (but one f) bound n (omega arith), sum_below-past g one n (omega arith))

-- ---- what has nothing pending

-- a transaction whose id is above all that have records has nothing pending
pending_past : (history : History) (txn : ℕ) → greatest_txn history < txn → pending_of history txn ≡ []
pending_past [] txn past = refl
pending_past (changes c ∷ before) txn past =
    if_different c.txn txn (c ∷ pending_of before txn) (pending_of before txn) (λ same. omega (arith, same, past))
    ∙ pending_past before txn (omega (arith, past))
pending_past (undoes u ∷ before) txn past =
    if_different u.txn txn (older (pending_of before txn)) (pending_of before txn) (λ same. omega (arith, same, past))
    ∙ pending_past before txn (omega (arith, past))
pending_past (enters e ∷ before) txn past = pending_past before txn (omega (arith, past))
pending_past (commits f ∷ before) txn past =
    if_different f.txn txn [] (pending_of before txn) (λ same. omega (arith, same, past)) ∙ pending_past before txn (omega (arith, past))
pending_past (ends f ∷ before) txn past =
    if_different f.txn txn [] (pending_of before txn) (λ same. omega (arith, same, past)) ∙ pending_past before txn (omega (arith, past))
pending_past (marks m ∷ before) txn past = pending_past before txn past

-- so it needs nothing
need_past : (history : History) (page txn : ℕ) → greatest_txn history + 1 ≤ txn → need_of history txn page ≡ 0
need_past history page txn past = ap (λ (all : List Change). need_for (on_page page all)) (pending_past history txn (omega (arith, past)))

-- ---- one more change

-- the bytes that the change's page has in use with it
abbrev bytes_with : History → Change → ℕ
bytes_with before c = used (set_slot (page_of before c.rid.page) c.rid.slot c.after)

-- and those that its transaction's undo then needs there
abbrev need_with : History → Change → ℕ
need_with before c = need_of (changes c ∷ before) c.txn c.rid.page

-- what the others need is as before
others_as_before : (before : History) (c : Change) (page k : ℕ) → (k ≡ c.txn → ⊥) → need_of (changes c ∷ before) k page ≡ need_of before k page
others_as_before before c page k other = need_of-change_other before c k page (λ same. other (sym same))

-- so each page has room with the change where its own has,
pages_fit : (before : History) (c : Change) → Fits before → bytes_with before c + others_need before c.txn c.rid.page + need_with before c ≤ CAPACITY
    → Fits (changes c ∷ before)
pages_fit before c fits room page = elim (cases_eq c.rid.page page) [
  | inl here ↦ subst (FitsOn (changes c ∷ before)) here
      (rw (eq-eqb c.rid.page c.rid.page refl)
      (all_fit (λ k. need_of before k c.rid.page) (λ k. need_of (changes c ∷ before) k c.rid.page) c.txn (greatest_txn before + 1) (bytes_with before c)
      (others_as_before before c c.rid.page) (need_past before c.rid.page) room))
  | inr other ↦
      let holds : page_of (changes c ∷ before) page ≡ page_of before page = rw (ne_eqb c.rid.page page other) refl in
      fits_as_before before (changes c ∷ before) page holds (λ txn. pending_on-change c before txn page other) (fits page)
]

-- and its own has where each has
page_fits : (before : History) (c : Change) → Fits (changes c ∷ before)
    → bytes_with before c + others_need before c.txn c.rid.page + need_with before c ≤ CAPACITY
page_fits before c fits =
    others_fit (λ k. need_of before k c.rid.page) (λ k. need_of (changes c ∷ before) k c.rid.page) c.txn (greatest_txn before + 1) (bytes_with before c)
    (others_as_before before c c.rid.page) (λ n. rw (eq-eqb c.rid.page c.rid.page refl) at (fits c.rid.page n))

-- ---- what is in use after a change

-- a slot that holds a row is inside of its directory
inside_where_row : (slots : List Slot) (number : ℕ) (row : List ℕ) → slot_at slots number ≡ Row row → number < length slots
inside_where_row slots number row holds = elim (cases_lt number (length slots)) [
  | inl inside ↦ inside
  | inr past ↦ let vacant : Vacant ≡ Row row = sym (get_or_past slots number Vacant past) ∙ holds in absurd cc
]

-- the change gives up the bytes that its slot held, and takes those that it holds and those of the directory's growth;
-- its transaction's undo needs those that it gave up, and no more those that it took
record Bytes (before : History) (c : Change) : Type 0 where
  used_is : bytes_with before c + row_length c.before
      ≡ used (page_of before c.rid.page) + growth_for (length (page_of before c.rid.page)) c.rid.slot + row_length c.after
  need_is : need_with before c ≡ (need_of before c.txn c.rid.page + row_length c.before) - row_length c.after

bytes_of : (before : History) (c : Change) → slot_at (page_of before c.rid.page) c.rid.slot ≡ c.before → Bytes before c
bytes_of before c held = record {
  used_is = omega (arith, ap row_length held, used-set_slot (page_of before c.rid.page) c.rid.slot c.after);
  need_is = need_of-change before c c.rid.page refl;
}

-- ---- the law

-- before the change its page has room for its transaction's need beside the others'
room_before : (before : History) (c : Change) → Fits before
    → used (page_of before c.rid.page) + others_need before c.txn c.rid.page + need_of before c.txn c.rid.page ≤ CAPACITY
room_before before c fits =
    others_fit (λ k. need_of before k c.rid.page) (λ k. need_of before k c.rid.page) c.txn (greatest_txn before + 1)
    (used (page_of before c.rid.page)) (λ k other. refl) (fits c.rid.page)

-- what fits is what leaves each page room
pub fitting_is_room : FittingIsRoom
fitting_is_room = record {
  row = λ before c row fits held was now.
      let b : Bytes before c = bytes_of before c held in (
        λ room. pages_fit before c fits (omega (arith, room, b.used_is, b.need_is, ap row_length was, ap row_length now)),
        λ all. omega (arith, page_fits before c all, b.used_is, b.need_is, ap row_length was, ap row_length now),
      );
  growth = λ before c old new fits held was now.
      let b : Bytes before c = bytes_of before c held in
      let inside : c.rid.slot < length (page_of before c.rid.page) = inside_where_row (page_of before c.rid.page) c.rid.slot old (held ∙ was) in (
        λ room. pages_fit before c fits (omega (arith, room, inside, b.used_is, b.need_is, ap row_length was, ap row_length now)),
        λ all. omega (arith, page_fits before c all, inside, b.used_is, b.need_is, ap row_length was, ap row_length now),
      );
  delete = λ before c old fits held was now.
      let b : Bytes before c = bytes_of before c held in
      let inside : c.rid.slot < length (page_of before c.rid.page) = inside_where_row (page_of before c.rid.page) c.rid.slot old (held ∙ was) in
      pages_fit before c fits (omega (arith, room_before before c fits, inside, b.used_is, b.need_is, ap row_length was, ap row_length now));
}
