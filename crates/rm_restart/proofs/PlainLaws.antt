-- What is pending in plain histories: inserts, whose undo needs no bytes of a page; when their pages fit.
use Rattle.std.proofs.Common.{◌≡◌, ℕ, zero, suc, ◌≤◌, Bool, true, false, cond, eqb, List, [], ◌∷◌, refl, ap, arith}
use Rattle.std.specs.List.{AllByRecursion}
use Rattle.rm_types.specs.declared.slots.TheConstants.{CAPACITY}
use Rattle.rm_model.specs.Pages.{used, row_length}
use Rattle.rm_history.specs.Acts.{Change, History, changes, undoes, enters, commits, ends, marks}
use Rattle.rm_history.specs.Contents.{page_of}
use Rattle.rm_history.specs.Pending.{pending_of}
use Rattle.rm_model.specs.Sums.{sum_below}
use Rattle.rm_history.specs.Needs.{on_page, need_for, need_of, Fits}
use Rattle.rm_history.specs.Rules.{IsInOrder}
use Rattle.rm_restart.specs.Plain.{IsInsert, ArePlain}

-- all of them are inserts
abbrev pub AreInserts : List Change → Type 0
AreInserts changed = AllByRecursion IsInsert changed

-- ---- what is pending

inserts_more : (mine : Bool) (c : Change) (changed : List Change) → IsInsert c → AreInserts changed → AreInserts (cond mine (c ∷ changed) changed)
inserts_more true c changed is all = (is, all)
inserts_more false c changed is all = all

inserts_none : (mine : Bool) (changed : List Change) → AreInserts changed → AreInserts (cond mine [] changed)
inserts_none true changed all = tt
inserts_none false changed all = all

pub pending_inserts : (history : History) → ArePlain history → (txn : ℕ) → AreInserts (pending_of history txn)
pending_inserts [] plain txn = tt
pending_inserts (changes c ∷ before) plain txn = inserts_more (eqb c.txn txn) c (pending_of before txn) plain.0 (pending_inserts before plain.1 txn)
pending_inserts (undoes u ∷ before) plain txn = absurd plain.0
pending_inserts (enters e ∷ before) plain txn = absurd plain.0
pending_inserts (commits f ∷ before) plain txn = inserts_none (eqb f.txn txn) (pending_of before txn) (pending_inserts before plain.1 txn)
pending_inserts (ends f ∷ before) plain txn = absurd plain.0
pending_inserts (marks m ∷ before) plain txn = absurd plain.0

-- ---- what their undo needs

inserts_there : (page : ℕ) (changed : List Change) → AreInserts changed → AreInserts (on_page page changed)
inserts_there page [] all = tt
inserts_there page (newest ∷ before) all = inserts_more (eqb newest.rid.page page) newest (on_page page before) all.0 (inserts_there page before all.1)

need_none : (changed : List Change) → AreInserts changed → need_for changed ≡ 0
need_none [] all = refl
need_none (newest ∷ before) all = omega (arith, need_none before all.1, ap row_length all.0.before_is)

pub need_of-plain : (history : History) → ArePlain history → (txn page : ℕ) → need_of history txn page ≡ 0
need_of-plain history plain txn page = need_none (on_page page (pending_of history txn)) (inserts_there page (pending_of history txn) (pending_inserts history plain txn))

sum_none : (f : ℕ → ℕ) → ((k : ℕ) → f k ≡ 0) → (n : ℕ) → sum_below f n ≡ 0
sum_none f none zero = refl
sum_none f none (suc n) = omega (arith, none n, sum_none f none n)

-- ---- room in the pages

-- each page of a history in order has room for what it holds
pub page_fits : (history : History) → IsInOrder history → (page : ℕ) → used (page_of history page) ≤ CAPACITY
page_fits [] ordered page = omega arith
page_fits (act ∷ before) ordered page = omega (arith, ordered.1.fits page 0)

-- and in a plain one that is all that it has room for
pub plain_fits : (history : History) → ArePlain history → ((page : ℕ) → used (page_of history page) ≤ CAPACITY) → Fits history
plain_fits history plain fits page n =
    omega (arith, fits page, sum_none (λ txn. need_of history txn page) (λ txn. need_of-plain history plain txn page) n)
