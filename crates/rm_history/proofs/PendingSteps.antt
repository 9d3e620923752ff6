-- What a record does to the pending changes, and to the slots of the pages.
use Rattle.std.proofs.Common.{◌≡◌, ◌⊎◌, inl, inr, ℕ, ◌<◌, ◌≤◌, cond, eqb, List, [], ◌∷◌, length, refl, sym, ap, ◌∙◌, arith}
use Rattle.std.proofs.lemmas.Bool.{cases_Bool, eq-eqb, ne_eqb, cond-true, cond-false, cases_eq}
use Rattle.rm_types.specs.declared.numbers.Rid.{Rid}
use Rattle.rm_types.specs.declared.slots.Slot.{Slot}
use Rattle.rm_model.specs.Pages.{set_slot, slot_at}
use Rattle.rm_model.proofs.Slots.{set_slot_at, set_slot_other, length-set_slot}
use Rattle.rm_history.specs.Acts.{Change, Undo, Finish, History, changes, undoes, commits, ends}
use Rattle.rm_history.specs.Pending.{older, pending_of}

-- ---- tests of numbers and of row ids

-- where two numbers are equal, and where they are not
pub if_equal : {A : Type 0} (a b : ℕ) (x y : A) → a ≡ b → cond (eqb a b) x y ≡ x
if_equal a b x y same = cond-true (eqb a b) x y (eq-eqb a b same)

pub if_different : {A : Type 0} (a b : ℕ) (x y : A) → (a ≡ b → ⊥) → cond (eqb a b) x y ≡ y
if_different a b x y other = cond-false (eqb a b) x y (ne_eqb a b other)

-- two row ids with the same page and slot are one
pub rid_from : (a b : Rid) → a.page ≡ b.page → a.slot ≡ b.slot → a ≡ b
rid_from a b pages slots = λ i. record { page = pages i; slot = slots i }

-- two row ids are one, or they are not
pub cases_rid : (a b : Rid) → (a ≡ b) ⊎ (a ≡ b → ⊥)
cases_rid a b = elim (cases_eq a.page b.page) [
  | inl pages ↦ elim (cases_eq a.slot b.slot) [
    | inl slots ↦ inl (rid_from a b pages slots)
    | inr other ↦ inr (λ same. other (ap (λ (r : Rid). r.slot) same))
  ]
  | inr other ↦ inr (λ same. other (ap (λ (r : Rid). r.page) same))
]

-- ---- pending changes

-- a change comes before its transaction's, and leaves the others'
pub pending-change : (c : Change) (before : History) → pending_of (changes c ∷ before) c.txn ≡ c ∷ pending_of before c.txn
pending-change c before = if_equal c.txn c.txn (c ∷ pending_of before c.txn) (pending_of before c.txn) refl

pub pending-change_other : (c : Change) (before : History) (txn : ℕ) → (c.txn ≡ txn → ⊥) → pending_of (changes c ∷ before) txn ≡ pending_of before txn
pending-change_other c before txn other = if_different c.txn txn (c ∷ pending_of before txn) (pending_of before txn) other

-- an undo takes its transaction's last one, and leaves the others'
pub pending-undo : (u : Undo) (before : History) → pending_of (undoes u ∷ before) u.txn ≡ older (pending_of before u.txn)
pending-undo u before = if_equal u.txn u.txn (older (pending_of before u.txn)) (pending_of before u.txn) refl

pub pending-undo_other : (u : Undo) (before : History) (txn : ℕ) → (u.txn ≡ txn → ⊥) → pending_of (undoes u ∷ before) txn ≡ pending_of before txn
pending-undo_other u before txn other = if_different u.txn txn (older (pending_of before txn)) (pending_of before txn) other

-- a commit and an end leave none of their transaction's, and the others'
pub pending-commit : (f : Finish) (before : History) → pending_of (commits f ∷ before) f.txn ≡ []
pending-commit f before = if_equal f.txn f.txn [] (pending_of before f.txn) refl

pub pending-commit_other : (f : Finish) (before : History) (txn : ℕ) → (f.txn ≡ txn → ⊥) → pending_of (commits f ∷ before) txn ≡ pending_of before txn
pending-commit_other f before txn other = if_different f.txn txn [] (pending_of before txn) other

pub pending-end : (f : Finish) (before : History) → pending_of (ends f ∷ before) f.txn ≡ []
pending-end f before = if_equal f.txn f.txn [] (pending_of before f.txn) refl

pub pending-end_other : (f : Finish) (before : History) (txn : ℕ) → (f.txn ≡ txn → ⊥) → pending_of (ends f ∷ before) txn ≡ pending_of before txn
pending-end_other f before txn other = if_different f.txn txn [] (pending_of before txn) other

-- ---- slots

-- pages with a slot set at a row id
abbrev pub put : (ℕ → List Slot) → Rid → Slot → ℕ → List Slot
put pages rid slot page = cond (eqb rid.page page) (set_slot (pages page) rid.slot slot) (pages page)

-- the row id holds it
pub slot_at-put : (pages : ℕ → List Slot) (rid : Rid) (slot : Slot) → slot_at (put pages rid slot rid.page) rid.slot ≡ slot
slot_at-put pages rid slot =
    ap (λ (slots : List Slot). slot_at slots rid.slot) (if_equal rid.page rid.page (set_slot (pages rid.page) rid.slot slot) (pages rid.page) refl)
    ∙ set_slot_at (pages rid.page) rid.slot slot

-- each other row id holds what it held
pub slot_at-put_other : (pages : ℕ → List Slot) (rid place : Rid) (slot : Slot) → (rid ≡ place → ⊥)
    → slot_at (put pages rid slot place.page) place.slot ≡ slot_at (pages place.page) place.slot
slot_at-put_other pages rid place slot other = elim (cases_eq rid.page place.page) [
  | inl same ↦
      ap (λ (slots : List Slot). slot_at slots place.slot) (if_equal rid.page place.page (set_slot (pages place.page) rid.slot slot) (pages place.page) same)
      ∙ set_slot_other (pages place.page) rid.slot place.slot slot (λ slots. other (rid_from rid place same (sym slots)))
  | inr elsewhere ↦ ap (λ (slots : List Slot). slot_at slots place.slot)
      (if_different rid.page place.page (set_slot (pages place.page) rid.slot slot) (pages place.page) elsewhere)
]

-- no directory gets shorter
pub length-put : (pages : ℕ → List Slot) (rid : Rid) (slot : Slot) (page : ℕ) → length (pages page) ≤ length (put pages rid slot page)
length-put pages rid slot page = elim (cases_Bool (eqb rid.page page)) [
  | inl on ↦ omega (
    arith,
    ap length (cond-true (eqb rid.page page) (set_slot (pages page) rid.slot slot) (pages page) on),
    length-set_slot (pages page) rid.slot slot,
  )
  | inr off ↦ omega (arith, ap length (cond-false (eqb rid.page page) (set_slot (pages page) rid.slot slot) (pages page) off))
]

-- the row id is inside of its page's
pub inside-put : (pages : ℕ → List Slot) (rid : Rid) (slot : Slot) → rid.slot < length (put pages rid slot rid.page)
inside-put pages rid slot =
    omega (
      arith,
      ap length (if_equal rid.page rid.page (set_slot (pages rid.page) rid.slot slot) (pages rid.page) refl),
      length-set_slot (pages rid.page) rid.slot slot,
    )
