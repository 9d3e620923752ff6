-- What a row id holds leads back through changes also where some of them are taken out.
use Rattle.std.proofs.Common.{◌≡◌, inl, inr, ℕ, eqb, List, [], ◌∷◌, Option, sym, ap, subst, ◌∙◌}
use Rattle.std.proofs.lemmas.Bool.{cond_both, cases_eq, eq-eqb, ne_eqb}
use Rattle.rm_types.specs.declared.numbers.Rid.{Rid}
use Rattle.rm_types.specs.declared.slots.Slot.{Slot}
use Rattle.rm_history.specs.Acts.{Change}
use Rattle.rm_history.specs.Pending.{of_txn, without_newest, without}
use Rattle.rm_history.specs.Laws.{IsChanged}
use Rattle.rm_history.proofs.AllPending.{of_txn-newest}
use Rattle.rm_history.proofs.LeadsBack.{LeadsBack}

-- ---- whose the changes on a row id are

-- each of these changes that is on the row id is of the transaction
abbrev pub OnlyOf : Rid → ℕ → List Change → Type 0
OnlyOf rid txn [] = Unit {0}
OnlyOf rid txn (newest ∷ before) = (newest.rid ≡ rid → txn ≡ newest.txn) × OnlyOf rid txn before

changed_more : (rid : Rid) (txn : ℕ) (newest : Change) (before : List Change) → IsChanged (of_txn txn before) rid
    → IsChanged (of_txn txn (newest ∷ before)) rid
changed_more rid txn newest before changed =
    cond_both (eqb newest.txn txn) (newest ∷ of_txn txn before) (of_txn txn before) (λ l. IsChanged l rid) (λ is. inr changed) (λ is. changed)

changed_first : (rid : Rid) (newest : Change) (before : List Change) → newest.rid ≡ rid → IsChanged (of_txn newest.txn (newest ∷ before)) rid
changed_first rid newest before here = subst (λ (l : List Change). IsChanged l rid) (sym (of_txn-newest newest before)) (inl here)

pub only_of : (rid : Rid) (txn : ℕ) (all : List Change) → ((other : ℕ) → IsChanged (of_txn other all) rid → txn ≡ other) → OnlyOf rid txn all
only_of rid txn [] one = tt
only_of rid txn (newest ∷ before) one = (
  λ here. one newest.txn (changed_first rid newest before here),
  only_of rid txn before (λ other changed. one other (changed_more rid other newest before changed)),
)

-- a change on the row id is of some transaction
pub changed_by : (rid : Rid) (all : List Change) → IsChanged all rid → (txn : ℕ) × IsChanged (of_txn txn all) rid
changed_by rid [] changed = absurd changed
changed_by rid (newest ∷ before) (inl here) = (newest.txn, changed_first rid newest before here)
changed_by rid (newest ∷ before) (inr earlier) =
    let found = changed_by rid before earlier in (found.0, changed_more rid found.0 newest before found.1)

-- none is left without those of the one transaction
pub none_left : (rid : Rid) (txn : ℕ) (all : List Change) → OnlyOf rid txn all → IsChanged (without all txn) rid → ⊥
none_left rid txn [] only = λ changed. changed
none_left rid txn (newest ∷ before) only = elim (cases_eq newest.txn txn) [
  | inl mine ↦ rw (eq-eqb newest.txn txn mine) (none_left rid txn before only.1)
  | inr other ↦ rw (ne_eqb newest.txn txn other) (λ changed. elim changed [
    | inl here ↦ other (sym (only.0 here))
    | inr earlier ↦ none_left rid txn before only.1 earlier
  ])
]

-- ---- with fewer changes

-- without the first, where it is on another row id
drop_first : (rid : Rid) (held : Slot) (newest : Change) (before : List Change) (row : Option (List ℕ)) → (newest.rid ≡ rid → ⊥)
    → LeadsBack rid held (newest ∷ before) row → LeadsBack rid held before row
drop_first rid held newest before row other (inl here) = absurd (other here.0)
drop_first rid held newest before row other (inr elsewhere) = elsewhere.1

-- and with the first, where fewer of the others lead as they do
keep_first : (rid : Rid) (newest : Change) (before fewer : List Change) (row : Option (List ℕ))
    → ((held : Slot) → LeadsBack rid held before row → LeadsBack rid held fewer row)
    → (held : Slot) → LeadsBack rid held (newest ∷ before) row → LeadsBack rid held (newest ∷ fewer) row
keep_first rid newest before fewer row rest held (inl here) = inl (here.0, here.1, rest newest.before here.2)
keep_first rid newest before fewer row rest held (inr elsewhere) = inr (elsewhere.0, rest held elsewhere.1)

-- the changes of a transaction that has none on the row id taken out
pub without_leads : (rid : Rid) (txn : ℕ) (all : List Change) (row : Option (List ℕ)) → (IsChanged (of_txn txn all) rid → ⊥)
    → (held : Slot) → LeadsBack rid held all row → LeadsBack rid held (without all txn) row
without_leads rid txn [] row free held leads = leads
without_leads rid txn (newest ∷ before) row free held leads = elim (cases_eq newest.txn txn) [
  | inl mine ↦
      let none : IsChanged (newest ∷ of_txn txn before) rid → ⊥ = rw (eq-eqb newest.txn txn mine) at free in
      rw (eq-eqb newest.txn txn mine) (without_leads rid txn before row (λ changed. none (inr changed)) held
      (drop_first rid held newest before row (λ here. none (inl here)) leads))
  | inr other ↦
      let none : IsChanged (of_txn txn before) rid → ⊥ = rw (ne_eqb newest.txn txn other) at free in
      rw (ne_eqb newest.txn txn other) (keep_first rid newest before (without before txn) row (without_leads rid txn before row none) held leads)
]

-- all but those of the one transaction taken out
pub of_txn_leads : (rid : Rid) (txn : ℕ) (all : List Change) (row : Option (List ℕ)) → OnlyOf rid txn all
    → (held : Slot) → LeadsBack rid held all row → LeadsBack rid held (of_txn txn all) row
of_txn_leads rid txn [] row only held leads = leads
of_txn_leads rid txn (newest ∷ before) row only held leads = elim (cases_eq newest.txn txn) [
  | inl mine ↦ rw (eq-eqb newest.txn txn mine) (keep_first rid newest before (of_txn txn before) row (of_txn_leads rid txn before row only.1) held leads)
  | inr other ↦ rw (ne_eqb newest.txn txn other)
      (of_txn_leads rid txn before row only.1 held (drop_first rid held newest before row (λ here. other (sym (only.0 here))) leads))
]

-- a transaction's newest taken out, which is on another row id,
pub newest_leads : (rid : Rid) (txn : ℕ) (last : Change) (rest all : List Change) (row : Option (List ℕ)) → of_txn txn all ≡ last ∷ rest
    → (last.rid ≡ rid → ⊥) → (held : Slot) → LeadsBack rid held all row → LeadsBack rid held (without_newest all txn) row
newest_leads rid txn last rest [] row is other held leads = leads
newest_leads rid txn last rest (newest ∷ before) row is other held leads = elim (cases_eq newest.txn txn) [
  | inl mine ↦
      let both : newest ∷ of_txn txn before ≡ last ∷ rest = rw (eq-eqb newest.txn txn mine) at is in
      let first : newest ≡ last = cc in
      rw (eq-eqb newest.txn txn mine) (drop_first rid held newest before row (λ here. other (ap (λ (c : Change). c.rid) (sym first) ∙ here)) leads)
  | inr others ↦
      let later : of_txn txn before ≡ last ∷ rest = rw (ne_eqb newest.txn txn others) at is in
      rw (ne_eqb newest.txn txn others)
      (keep_first rid newest before (without_newest before txn) row (newest_leads rid txn last rest before row later other) held leads)
]

-- or which is the newest on this one: without it the others lead from what it found
pub newest_back : (rid : Rid) (txn : ℕ) (last : Change) (rest all : List Change) (row : Option (List ℕ)) → of_txn txn all ≡ last ∷ rest
    → OnlyOf rid txn all → last.rid ≡ rid → (held : Slot) → LeadsBack rid held all row → LeadsBack rid last.before (without_newest all txn) row
newest_back rid txn last rest [] row is only here held leads = absurd cc
newest_back rid txn last rest (newest ∷ before) row is only here held leads = elim (cases_eq newest.txn txn) [
  | inl mine ↦
      let both : newest ∷ of_txn txn before ≡ last ∷ rest = rw (eq-eqb newest.txn txn mine) at is in
      let first : newest ≡ last = cc in
      rw (eq-eqb newest.txn txn mine) (elim leads [
        | inl found ↦ subst (λ (c : Change). LeadsBack rid c.before before row) first found.2
        | inr elsewhere ↦ absurd (elsewhere.0 (ap (λ (c : Change). c.rid) first ∙ here))
      ])
  | inr others ↦
      let later : of_txn txn before ≡ last ∷ rest = rw (ne_eqb newest.txn txn others) at is in
      let elsewhere : newest.rid ≡ rid → ⊥ = λ same. others (sym (only.0 same)) in
      rw (ne_eqb newest.txn txn others)
      (inr (elsewhere, newest_back rid txn last rest before row later only.1 here held (drop_first rid held newest before row elsewhere leads)))
]
