-- How many bytes restart's undo of a plain history adds to the log.
use Rattle.std.proofs.Common.{◌≡◌, inl, inr, ℕ, ◌+◌, ◌*◌, ◌≤◌, Bool, true, false, cond, eqb, List, [], ◌∷◌, length, refl, sym, ap, subst, ◌∙◌, arith}
use Rattle.std.proofs.lemmas.Bool.{cases_eq, eq-eqb, ne_eqb}
use Rattle.rm_types.specs.declared.formats.Format.TheVariants.{One}
use Rattle.rm_types.specs.declared.slots.Slot.{Slot}
use Rattle.rm_types.specs.declared.slots.Slot.TheVariants.{Vacant}
use Rattle.rm_history.specs.Acts.{Change, Entry, History, changes, undoes, enters, commits, ends, marks}
use Rattle.rm_history.specs.Pending.{pending_of, all_pending, of_txn}
use Rattle.rm_history.specs.Transactions.{IsFinished, HasRecord}
use Rattle.rm_history.specs.Rules.{IsInOrder}
use Rattle.rm_history.specs.Losers.{losers_of, IsAmong, AreRising}
use Rattle.rm_history.specs.Undoing.{category_after, entry_for, undo_for}
use Rattle.rm_history.specs.UndoBytes.{inventory_record, compensate_record, end_record, bytes_of, with_undo, undoing_bytes, ending_bytes, undo_bytes}
use Rattle.rm_history.specs.Contents.{entry_of}
use Rattle.rm_history.proofs.AllPending.{of_txn-newest, pending_of_all}
use Rattle.rm_history.proofs.Losers.{losers_rise, losers_are_unfinished}
use Rattle.rm_restart.specs.Plain.{ArePlain}
use Rattle.rm_restart.proofs.PlainLaws.{AreInserts, pending_inserts}

-- ---- the bytes of the records

inventory_bytes : (e : Entry) → bytes_of (inventory_record e) ≡ 15
inventory_bytes e = refl

-- a compensation that leaves the slot vacant
compensate_bytes : (last : Change) → last.before ≡ Vacant → bytes_of (compensate_record (undo_for 0 last)) ≡ 33
compensate_bytes last vacant =
    ap (λ (back : Slot). bytes_of (compensate_record (record { lsn = 0; txn = last.txn; undone = last.lsn; next = last.under; rid = last.rid; back = back }))) vacant

end_bytes : (txn : ℕ) → bytes_of (end_record txn) ≡ 10
end_bytes txn = refl

entry_bytes : (right : Bool) (e : Entry) → cond right 0 (bytes_of (inventory_record e)) ≤ 15
entry_bytes true e = omega arith
entry_bytes false e = omega (arith, inventory_bytes e)

-- ---- undoing some inserts

undoing_bound : (history : History) (changed : List Change) → AreInserts changed → undoing_bytes One history changed ≤ 48 * length changed
undoing_bound history [] all = omega arith
undoing_bound history (last ∷ rest) all =
    omega (
      arith,
      entry_bytes (eqb (entry_of history last.rid.page) (category_after One history last)) (entry_for One 0 history last),
      compensate_bytes last all.0.before_is,
      undoing_bound (with_undo One history last) rest all.1,
    )

-- ---- all that is pending, where one transaction alone has some

of_txn-tail : (txn : ℕ) (newest : Change) (rest : List Change) → (newest.txn ≡ txn → ⊥) → of_txn txn (newest ∷ rest) ≡ of_txn txn rest
of_txn-tail txn newest rest other = rw (ne_eqb newest.txn txn other)

some_of : (newest : Change) (rest : List Change) → of_txn newest.txn (newest ∷ rest) ≡ [] → ⊥
some_of newest rest none = omega (arith, ap (λ (l : List Change). length l) (sym (of_txn-newest newest rest) ∙ none))

all_of_one : (only : ℕ) (all : List Change) → ((other : ℕ) → (other ≡ only → ⊥) → of_txn other all ≡ []) → of_txn only all ≡ all
all_of_one only [] others = refl
all_of_one only (newest ∷ rest) others = elim (cases_eq newest.txn only) [
  | inl same ↦
      rw (eq-eqb newest.txn only same)
      (ap (λ (l : List Change). newest ∷ l)
      (all_of_one only rest (λ other differs. sym (of_txn-tail other newest rest (λ is. differs (sym is ∙ same))) ∙ others other differs)))
  | inr differs ↦ absurd (some_of newest rest (others newest.txn differs))
]

all_of_none : (all : List Change) → ((txn : ℕ) → of_txn txn all ≡ []) → all ≡ []
all_of_none [] none = refl
all_of_none (newest ∷ rest) none = absurd (some_of newest rest (none newest.txn))

-- ---- the losers of a plain history

some_more : (mine : Bool) (c : Change) (changed : List Change) → (changed ≡ [] → ⊥) → cond mine (c ∷ changed) changed ≡ [] → ⊥
some_more true c changed some none = omega (arith, ap (λ (l : List Change). length l) none)
some_more false c changed some none = some none

some_now : (mine : Bool) (c : Change) (changed : List Change) → mine ≡ true → cond mine (c ∷ changed) changed ≡ [] → ⊥
some_now mine c changed is none = omega (arith, ap (λ (l : List Change). length l) (ap (λ (b : Bool). cond b (c ∷ changed) changed) (sym is) ∙ none))

-- a transaction that has a record and is not finished has something pending
unfinished_pends : (history : History) → ArePlain history → (txn : ℕ) → HasRecord history txn → (IsFinished history txn → ⊥) → pending_of history txn ≡ [] → ⊥
unfinished_pends [] plain txn has unfinished = absurd has
unfinished_pends (changes c ∷ before) plain txn (inl now) unfinished = some_now (eqb c.txn txn) c (pending_of before txn) (eq-eqb c.txn txn now)
unfinished_pends (changes c ∷ before) plain txn (inr earlier) unfinished =
    some_more (eqb c.txn txn) c (pending_of before txn) (unfinished_pends before plain.1 txn earlier unfinished)
unfinished_pends (undoes u ∷ before) plain txn has unfinished = absurd plain.0
unfinished_pends (enters e ∷ before) plain txn has unfinished = absurd plain.0
unfinished_pends (commits f ∷ before) plain txn (inl now) unfinished = absurd (unfinished (inl now))
unfinished_pends (commits f ∷ before) plain txn (inr earlier) unfinished =
    rw (ne_eqb f.txn txn (λ same. unfinished (inl same))) (unfinished_pends before plain.1 txn earlier (λ finished. unfinished (inr finished)))
unfinished_pends (ends f ∷ before) plain txn has unfinished = absurd plain.0
unfinished_pends (marks m ∷ before) plain txn has unfinished = absurd plain.0

loser_pends : (history : History) → IsInOrder history → ArePlain history → (txn : ℕ) → IsAmong (losers_of history) txn → pending_of history txn ≡ [] → ⊥
loser_pends history ordered plain txn loses =
    let is = (losers_are_unfinished.exact history ordered txn).0 loses in
    unfinished_pends history plain txn is.0 is.1

-- numbers that rise and are one are no more than one
at_most_one : (only : ℕ) (numbers : List ℕ) → AreRising numbers → ((n : ℕ) → IsAmong numbers n → n ≡ only) → ending_bytes numbers ≤ 10
at_most_one only [] rise one = omega arith
at_most_one only (first ∷ []) rise one = omega (arith, end_bytes first)
at_most_one only (first ∷ second ∷ rest) rise one =
    absurd (omega (arith, rise.0 second (inl refl), one first (inl refl), one second (inr (inl refl))))

no_numbers : (numbers : List ℕ) → ((n : ℕ) → IsAmong numbers n → ⊥) → numbers ≡ []
no_numbers [] none = refl
no_numbers (first ∷ rest) none = absurd (none first (inl refl))

-- ---- the undo of a plain history

-- where one transaction alone has pending records, it is what undoes them
pub undo_bytes-one : (history : History) → IsInOrder history → ArePlain history → (only : ℕ) → ((other : ℕ) → (other ≡ only → ⊥) → pending_of history other ≡ [])
    → undo_bytes One history ≤ 48 * length (pending_of history only) + 10
undo_bytes-one history ordered plain only others =
    let all : pending_of history only ≡ all_pending history =
    pending_of_all history only ∙ all_of_one only (all_pending history) (λ other differs. sym (pending_of_all history other) ∙ others other differs) in
    let loser : (n : ℕ) → IsAmong (losers_of history) n → n ≡ only = λ n loses. elim (cases_eq n only) [
      | inl same ↦ same
      | inr differs ↦ absurd (loser_pends history ordered plain n loses (others n differs))
    ] in
    omega (
      arith,
      ap (λ (l : List Change). length l) all,
      undoing_bound history (all_pending history) (subst AreInserts all (pending_inserts history plain only)),
      at_most_one only (losers_of history) (losers_rise history) loser,
    )

pub undo_bytes-none : (history : History) → IsInOrder history → ArePlain history → ((txn : ℕ) → pending_of history txn ≡ []) → undo_bytes One history ≡ 0
undo_bytes-none history ordered plain none =
    let all : all_pending history ≡ [] = all_of_none (all_pending history) (λ txn. sym (pending_of_all history txn) ∙ none txn) in
    let losers : losers_of history ≡ [] = no_numbers (losers_of history) (λ n loses. loser_pends history ordered plain n loses (none n)) in
    omega (arith, ap (undoing_bytes One history) all, ap ending_bytes losers)
