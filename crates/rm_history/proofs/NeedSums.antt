-- How what a page uses, and what the undo of its pending changes needs, change with one record.
use Rattle.std.proofs.Common.{◌≡◌, ℕ, zero, suc, ◌+◌, ◌-◌, ◌<◌, ◌≤◌, eqb, if◌then◌else◌, List, [], ◌∷◌, length, inl, inr, refl, sym, ap, ◌∙◌, arith}
use Rattle.std.proofs.lemmas.Bool.{cases_eq, cases_lt, eq-eqb, ne_eqb}
use Rattle.rm_types.specs.declared.slots.Slot.{Slot}
use Rattle.rm_types.specs.declared.slots.TheConstants.{CAPACITY}
use Rattle.rm_model.specs.Pages.{used, row_length, set_slot, slot_at}
use Rattle.rm_model.proofs.Slots.{used-set_slot}
use Rattle.rm_model.proofs.Sums.{sum_below-less, sum_below-one, sum_below-more}
use Rattle.rm_history.specs.Acts.{Change, Undo, Finish, History, changes, undoes, commits}
use Rattle.rm_history.specs.Contents.{page_of}
use Rattle.rm_history.specs.Pending.{older, pending_of}
use Rattle.rm_model.specs.Sums.{sum_below}
use Rattle.rm_history.specs.Needs.{on_page, need_for, need_of, FitsOn, Fits}
use Rattle.rm_history.proofs.PendingSteps.{pending-change, pending-change_other, pending-undo, pending-undo_other}

-- ---- sums

-- a page still has room where one transaction's need grew by no more than the page's use fell
pub room_kept : (f g : ℕ → ℕ) (one old new : ℕ) → ((k : ℕ) → (k ≡ one → ⊥) → g k ≡ f k) → new + g one ≤ old + f one
    → ((n : ℕ) → old + sum_below f n ≤ CAPACITY) → (n : ℕ) → new + sum_below g n ≤ CAPACITY
room_kept f g one old new same step room n = elim (cases_lt one n) [
  | inl below ↦ omega (arith, room n, sum_below-one f g one n same below)
  | inr past ↦ omega (arith, room (suc one), sum_below-more g n (suc one) (omega (arith, past)), sum_below-one f g one (suc one) same (omega arith))
]

-- ---- what a page uses

-- where a slot of the directory is set, the page gives up the bytes of its row and takes those of the new one
pub used-inside : (slots : List Slot) (number : ℕ) (slot : Slot) → number < length slots
    → used (set_slot slots number slot) + row_length (slot_at slots number) ≡ used slots + row_length slot
used-inside slots number slot inside = omega (arith, used-set_slot slots number slot)

-- ---- what an undo needs

-- a change on a page is the newest of those on it
pub on_page-here : (page : ℕ) (last : Change) (rest : List Change) → last.rid.page ≡ page → on_page page (last ∷ rest) ≡ last ∷ on_page page rest
on_page-here page last rest here = rw (eq-eqb last.rid.page page here)

-- what the undo of a transaction's changes needs on the page of the newest of them, by what the older ones need there
pub need_for-here : (page : ℕ) (last : Change) (rest : List Change) → last.rid.page ≡ page
    → need_for (on_page page (last ∷ rest)) ≡ (need_for (on_page page rest) + row_length last.before) - row_length last.after
need_for-here page last rest here = ap need_for (on_page-here page last rest here)

-- ---- what is pending on a page, with one more record

-- after an undo its transaction has the older ones pending
pub pending_of-undo : (before : History) (u : Undo) (last : Change) (rest : List Change) → pending_of before u.txn ≡ last ∷ rest
    → pending_of (undoes u ∷ before) u.txn ≡ rest
pending_of-undo before u last rest is = pending-undo u before ∙ ap older is

-- on a page that a change does not touch, what was before it
pub pending_on-change : (c : Change) (before : History) (txn page : ℕ) → (c.rid.page ≡ page → ⊥)
    → on_page page (pending_of (changes c ∷ before) txn) ≡ on_page page (pending_of before txn)
pending_on-change c before txn page other = elim (cases_eq c.txn txn) [
  | inl mine ↦ rw (eq-eqb c.txn txn mine, ne_eqb c.rid.page page other)
  | inr others ↦ rw (ne_eqb c.txn txn others)
]

-- and so with an undo
pub pending_on-undo : (u : Undo) (before : History) (last : Change) (rest : List Change) (txn page : ℕ) → pending_of before u.txn ≡ last ∷ rest
    → (last.rid.page ≡ page → ⊥) → on_page page (pending_of (undoes u ∷ before) txn) ≡ on_page page (pending_of before txn)
pending_on-undo u before last rest txn page is other = elim (cases_eq u.txn txn) [
  | inl mine ↦
      let its : pending_of before txn ≡ last ∷ rest = ap (pending_of before) (sym mine) ∙ is in
      rw (eq-eqb u.txn txn mine, its, ne_eqb last.rid.page page other)
  | inr others ↦ rw (ne_eqb u.txn txn others)
]

-- ---- what an undo needs, with one more record

-- what a transaction's undo needs after a change of its own
pub need_of-change : (before : History) (c : Change) (page : ℕ) → c.rid.page ≡ page
    → need_of (changes c ∷ before) c.txn page ≡ (need_of before c.txn page + row_length c.before) - row_length c.after
need_of-change before c page here =
    ap (λ (all : List Change). need_for (on_page page all)) (pending-change c before) ∙ need_for-here page c (pending_of before c.txn) here

-- a change leaves what the other transactions' undo needs
pub need_of-change_other : (before : History) (c : Change) (other page : ℕ) → (c.txn ≡ other → ⊥)
    → need_of (changes c ∷ before) other page ≡ need_of before other page
need_of-change_other before c other page differs = ap (λ (all : List Change). need_for (on_page page all)) (pending-change_other c before other differs)

-- before an undo it needs what it needs after it, with the bytes that the change gave up and without those that it took
pub need_of-undo : (before : History) (u : Undo) (last : Change) (rest : List Change) (page : ℕ) → pending_of before u.txn ≡ last ∷ rest
    → last.rid.page ≡ page → need_of before u.txn page ≡ (need_of (undoes u ∷ before) u.txn page + row_length last.before) - row_length last.after
need_of-undo before u last rest page is here =
    ap (λ (all : List Change). need_for (on_page page all)) is ∙ need_for-here page last rest here
    ∙ ap (λ (all : List Change). (need_for (on_page page all) + row_length last.before) - row_length last.after)
    (sym (pending_of-undo before u last rest is))

-- and an undo leaves what the other transactions' undo needs
pub need_of-undo_other : (before : History) (u : Undo) (other page : ℕ) → (u.txn ≡ other → ⊥)
    → need_of (undoes u ∷ before) other page ≡ need_of before other page
need_of-undo_other before u other page differs = ap (λ (all : List Change). need_for (on_page page all)) (pending-undo_other u before other differs)

-- ---- which pages fit

-- a page that holds what it held, where no transaction's undo needs more
pub fits_with_less : (before after : History) (page : ℕ) → page_of after page ≡ page_of before page
    → ((txn : ℕ) → need_of after txn page ≤ need_of before txn page) → FitsOn before page → FitsOn after page
fits_with_less before after page holds less fits n =
    omega (arith, fits n, ap used holds, sum_below-less (λ txn. need_of before txn page) (λ txn. need_of after txn page) n less)

-- and one with the pending changes that it had
pub fits_as_before : (before after : History) (page : ℕ) → page_of after page ≡ page_of before page
    → ((txn : ℕ) → on_page page (pending_of after txn) ≡ on_page page (pending_of before txn)) → FitsOn before page → FitsOn after page
fits_as_before before after page holds pending = fits_with_less before after page holds (λ txn. omega (arith, ap need_for (pending txn)))

-- each page still fits after a commit, and so after an end: nothing of its transaction is pending then
finish_needs : (page txn by : ℕ) (its : List Change) → need_for (on_page page (if eqb by txn then [] else its)) ≤ need_for (on_page page its)
finish_needs page txn by its = elim (cases_eq by txn) [
  | inl mine ↦ rw (eq-eqb by txn mine) (omega arith)
  | inr others ↦ rw (ne_eqb by txn others) (omega arith)
]

pub finish_fits : (before : History) (f : Finish) → Fits before → Fits (commits f ∷ before)
finish_fits before f fits page = fits_with_less before (commits f ∷ before) page refl (λ txn. finish_needs page txn f.txn (pending_of before txn)) (fits page)
