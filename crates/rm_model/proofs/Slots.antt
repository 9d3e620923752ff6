-- What setting one slot of a page changes: its rows, its count of slots and its use.
use Rattle.std.proofs.Common.{◌≡◌, ◌≢◌, ℕ, ◌+◌, ◌-◌, ◌*◌, ◌<◌, ◌≤◌, ◌==◌, if◌then◌else◌, max, List, [], ◌∷◌, ◌++◌, length, take, drop, replicate, get_or, set, sum_by, Some, None, zero, suc, refl, sym, ap, ◌∙◌, inl, inr, add-one, arith, rules}
use Rattle.std.proofs.lemmas.Bool.{cases_eq, cases_lt, eq-eqb, ne_eqb}
use Rattle.std.proofs.lemmas.List.{append-nil, append_assoc, length-take, length-drop, length-append, length-replicate, get_or_past, drop_all, take_all, set_split, ext_get_or, places}
use Rattle.std.proofs.lemmas.List.Sums.{sum_by-append, sum_by-cons, sum_by-take-drop, sum_by-drop_more, get_or-le-sum_by}
use Rattle.std.proofs.lemmas.Option.{none-some, same_Some}
use Rattle.rm_types.specs.declared.slots.Slot.{Slot}
use Rattle.rm_types.specs.declared.slots.Slot.TheVariants.{Vacant, Row}
use Rattle.rm_types.specs.declared.slots.TheConstants.{CAPACITY, SLOT_ENTRY}
use Rattle.rm_types.specs.declared.rows.TheConstants.{MAX_ROW}
use Rattle.rm_types.specs.declared.numbers.TheConstants.{MAX_SLOT}
use Rattle.rm_model.specs.Pages.{row_of, row_length, used, row_at, set_slot}

-- the count of slots

pub length-set_slot : (slots : List Slot) (number : ℕ) (slot : Slot) → length (set_slot slots number slot) ≡ max (length slots) (number + 1)
length-set_slot slots number slot =
    simp (length-append, length-take, length-replicate, length-drop) (omega arith)

-- the slot at each number

pub set_slot_below : (slots : List Slot) (number at : ℕ) (slot : Slot) → at < number → get_or (set_slot slots number slot) at Vacant ≡ get_or slots at Vacant
set_slot_below slots number at slot below = search (rules, places)

pub set_slot_at : (slots : List Slot) (number : ℕ) (slot : Slot) → get_or (set_slot slots number slot) number Vacant ≡ slot
set_slot_at slots number slot = search (rules, places)

pub set_slot_above : (slots : List Slot) (number at : ℕ) (slot : Slot) → number < at → get_or (set_slot slots number slot) at Vacant ≡ get_or slots at Vacant
set_slot_above slots number at slot above = search (rules, places)

pub set_slot_other : (slots : List Slot) (number at : ℕ) (slot : Slot) → at ≢ number → get_or (set_slot slots number slot) at Vacant ≡ get_or slots at Vacant
set_slot_other slots number at slot other =
    elim (cases_lt at number) [ inl below ↦ set_slot_below slots number at slot below | inr above ↦ set_slot_above slots number at slot (omega arith) ]

pub row_at-set_slot : (slots : List Slot) (number at : ℕ) (slot : Slot) → row_at (set_slot slots number slot) at ≡ (if at == number then row_of slot else row_at slots at)
row_at-set_slot slots number at slot =
    elim (cases_eq at number) [
      | inl same ↦ rw (eq-eqb at number same, same) (ap row_of (set_slot_at slots number slot))
      | inr other ↦ rw (ne_eqb at number other) (ap row_of (set_slot_other slots number at slot other))
    ]

-- the slots themselves, where the number is inside, and where it is past the end

pub set_slot_inside : (slots : List Slot) (number : ℕ) (slot : Slot) → number < length slots → set_slot slots number slot ≡ set slots number slot
set_slot_inside slots number slot inside =
    let none : number - length slots ≡ 0 = omega arith in
    rw (none, add-one) (sym (set_split slots number slot inside))

pub set_slot_past : (slots : List Slot) (number : ℕ) (slot : Slot) → length slots ≤ number → set_slot slots number slot ≡ (slots ++ replicate (number - length slots) Vacant) ++ slot ∷ []
set_slot_past slots number slot past =
    let past_next : length slots ≤ number + 1 = omega arith in
    rw (take_all number slots past, drop_all (number + 1) slots past_next) (sym (append_assoc slots (replicate (number - length slots) Vacant) (slot ∷ [])))

pub set_slot_end : (slots : List Slot) (slot : Slot) → set_slot slots (length slots) slot ≡ slots ++ slot ∷ []
set_slot_end slots slot =
    let none : length slots - length slots ≡ 0 = omega arith in
    set_slot_past slots (length slots) slot (omega arith) ∙ rw (none, append-nil)

-- setting a slot twice

same_at_twice : (slots : List Slot) (number at : ℕ) (old new : Slot) → get_or (set_slot (set_slot slots number old) number new) at Vacant ≡ get_or (set_slot slots number new) at Vacant
same_at_twice slots number at old new =
    elim (cases_eq at number) [
      | inl same ↦ rw same (set_slot_at (set_slot slots number old) number new ∙ sym (set_slot_at slots number new))
      | inr other ↦ set_slot_other (set_slot slots number old) number at new other ∙ set_slot_other slots number at old other ∙ sym (set_slot_other slots number at new other)
    ]

same_lists_at : (slots others : List Slot) → length slots ≡ length others → ((at : ℕ) → get_or slots at Vacant ≡ get_or others at Vacant) → slots ≡ others
same_lists_at slots others count each =
    ext_get_or Vacant slots others count (λ at _. each at)

pub set_slot-set_slot : (slots : List Slot) (number : ℕ) (old new : Slot) → set_slot (set_slot slots number old) number new ≡ set_slot slots number new
set_slot-set_slot slots number old new =
    same_lists_at _ _
    (omega (arith, length-set_slot (set_slot slots number old) number new, length-set_slot slots number old, length-set_slot slots number new))
    (λ at. same_at_twice slots number at old new)

-- no row is past the end

pub row_at_past : (slots : List Slot) (number : ℕ) → length slots ≤ number → row_at slots number ≡ None
row_at_past slots number past = ap row_of (get_or_past slots number Vacant past)

-- the bytes in use

sum_by-replicate_Vacant : (count : ℕ) → sum_by row_length (replicate count Vacant) ≡ 0
sum_by-replicate_Vacant zero = refl
sum_by-replicate_Vacant (suc count) = omega (arith, sum_by-cons row_length Vacant (replicate count Vacant), sum_by-replicate_Vacant count)

sum_by-set_slot : (slots : List Slot) (number : ℕ) (slot : Slot) → sum_by row_length (set_slot slots number slot) ≡ sum_by row_length (take number slots) + (row_length slot + sum_by row_length (drop (number + 1) slots))
sum_by-set_slot slots number slot =
    simp (sum_by-append, sum_by-replicate_Vacant, sum_by-cons) (omega arith)

rows_split : (slots : List Slot) (number : ℕ) → sum_by row_length slots ≡ sum_by row_length (take number slots) + (row_length (get_or slots number Vacant) + sum_by row_length (drop (number + 1) slots))
rows_split slots number =
    elim (cases_lt number (length slots)) [
      | inl inside ↦ omega (arith, sum_by-take-drop row_length slots number, sum_by-drop_more row_length slots number Vacant inside)
      | inr past ↦ let past_next : length slots ≤ number + 1 = omega arith in rw (take_all number slots past, drop_all (number + 1) slots past_next, get_or_past slots number Vacant past) (omega arith)
    ]

pub used-set_slot : (slots : List Slot) (number : ℕ) (slot : Slot) → used (set_slot slots number slot) + row_length (get_or slots number Vacant) ≡ used slots + SLOT_ENTRY * (number + 1 - length slots) + row_length slot
used-set_slot slots number slot =
    omega (arith, length-set_slot slots number slot, sum_by-set_slot slots number slot, rows_split slots number)

pub used-set_slot_end : (slots : List Slot) (slot : Slot) → used (set_slot slots (length slots) slot) ≡ used slots + SLOT_ENTRY + row_length slot
used-set_slot_end slots slot =
    let none : row_length (get_or slots (length slots) Vacant) ≡ 0 = ap row_length (get_or_past slots (length slots) Vacant (omega arith)) in
    omega (arith, used-set_slot slots (length slots) slot)

pub used_entries : (slots : List Slot) → SLOT_ENTRY * length slots ≤ used slots
used_entries slots = omega arith

pub length_within : (slots : List Slot) → used slots ≤ CAPACITY → length slots ≤ MAX_SLOT + 1
length_within slots fits = omega arith

pub used_entry : (slots : List Slot) (number : ℕ) → number < length slots → SLOT_ENTRY + row_length (get_or slots number Vacant) ≤ used slots
used_entry slots number inside =
    omega (arith, get_or-le-sum_by row_length slots number Vacant inside)

pub row_length-le-used : (slots : List Slot) (number : ℕ) → row_length (get_or slots number Vacant) ≤ used slots
row_length-le-used slots number = omega (arith, rows_split slots number)

row_length_of : (slot : Slot) (row : List ℕ) → row_of slot ≡ Some row → row_length slot ≡ length row
row_length_of Vacant row is = absurd (none-some row is)
row_length_of (Row bytes) row is = ap length (same_Some bytes row is)

pub row_within : (slots : List Slot) (number : ℕ) (row : List ℕ) → used slots ≤ CAPACITY → row_at slots number ≡ Some row → length row ≤ MAX_ROW
row_within slots number row fits is =
    elim (cases_lt number (length slots)) [
      | inl inside ↦ omega (arith, used_entry slots number inside, row_length_of (get_or slots number Vacant) row is)
      | inr past ↦ absurd (none-some row (sym (row_at_past slots number past) ∙ is))
    ]
