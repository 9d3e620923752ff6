-- How the losers of a log go on by a record.
use Rattle.std.proofs.Common.{◌≡◌, inl, inr, ℕ, zero, suc, ◌<◌, Bool, not, eqb, max, List, [], ◌∷◌, length, map, get_or, Result, Ok, Err, OnOk, Option, Some, None, IsSome, OnSome, refl, sym, ap, subst, ◌∙◌, arith}
use Rattle.std.specs.List.{filter, remove}
use Rattle.std.specs.Ordering.{nat_cmp}
use Rattle.std.specs.BTreeSet.{insert_key}
use Rattle.std.specs.BTreeMap.{is_at}
use Rattle.std.specs.Set.{remove_key}
use Rattle.std.proofs.lemmas.Bool.{true≢false, cases_eq, cases_lt, eq-eqb, ne_eqb, lt-ltb, le-ltb}
use Rattle.rm_types.specs.declared.places.Place.{Place}
use Rattle.rm_history.specs.Acts.{Change, History}
use Rattle.rm_history.specs.Losers.{losers_of, with_number, without_number, IsAmong}
use Rattle.rm_history.specs.Pending.{all_pending, without, without_newest}
use Rattle.rm_history.specs.Transactions.{greatest_txn}
use Rattle.rm_history.proofs.Losers.{with_number_among}
use Rattle.rm_recovery.specs.declared.losers.Losers.{Losers}
use Rattle.rm_recovery.specs.Losers.{AreKnown, AreLosers, HasNoneBefore, IsFirstOf, place_of}
use Rattle.rm_recovery.proofs.Members.{among_within}

-- ---- what is pending

-- a place is of the transaction
abbrev pub is_of : ℕ → Place → Bool
is_of txn place = eqb place.number txn

pub without-is : (txn : ℕ) (all : List Change) → filter (λ (p : Place). not (is_of txn p)) (map place_of all) ≡ map place_of (without all txn)
without-is txn [] = refl
without-is txn (newest ∷ before) = elim (cases_eq newest.txn txn) [
  | inl same ↦ rw (eq-eqb newest.txn txn same) (without-is txn before)
  | inr other ↦ rw (ne_eqb newest.txn txn other) (ap (λ (l : List Place). place_of newest ∷ l) (without-is txn before))
]

none_after : (txn : ℕ) (first : Place) (rest : List Place) (i : ℕ) → HasNoneBefore txn (first ∷ rest) (suc i) → HasNoneBefore txn rest i
none_after txn first rest i none = λ k d below inside. none (suc k) d (omega (arith, below)) (omega (arith, inside))

-- where the first of the transaction is taken out, its newest is; where it has none, nothing is
pub newest_removed : (txn : ℕ) (all : List Change) (i : ℕ) (d : Place) → i < length (map place_of all) → HasNoneBefore txn (map place_of all) i
    → (get_or (map place_of all) i d).number ≡ txn → remove (map place_of all) i ≡ map place_of (without_newest all txn)
newest_removed txn [] i d inside none here = absurd (omega (arith, inside))
newest_removed txn (newest ∷ before) zero d inside none here = rw (eq-eqb newest.txn txn here) refl
newest_removed txn (newest ∷ before) (suc i) d inside none here =
    rw (ne_eqb newest.txn txn (none 0 d (omega arith) (omega arith)))
    (ap (λ (l : List Place). place_of newest ∷ l)
    (newest_removed txn before i d (omega (arith, inside)) (none_after txn (place_of newest) (map place_of before) i none) here))

pub none_removed : (txn : ℕ) (all : List Change) → HasNoneBefore txn (map place_of all) (length (map place_of all)) → map place_of all ≡ map place_of (without_newest all txn)
none_removed txn [] none = refl
none_removed txn (newest ∷ before) none =
    rw (ne_eqb newest.txn txn (none 0 (place_of newest) (omega arith) (omega arith)))
    (ap (λ (l : List Place). place_of newest ∷ l) (none_removed txn before (none_after txn (place_of newest) (map place_of before) _ none)))

pub on_some : {T : Type 0} (P : Type 0) (o : Option T) → IsSome o → OnSome o P → P
on_some P None some is = absurd (true≢false (sym some))
on_some P (Some x) some is = is

pub first_removed : (txn : ℕ) (places kept : List Place) (at : ℕ) → IsFirstOf txn places at → kept ≡ remove places at → (all : List Change) → places ≡ map place_of all
    → kept ≡ map place_of (without_newest all txn)
first_removed txn places kept at first is all are =
    let here : IsFirstOf txn (map place_of all) at = subst (λ (l : List Place). IsFirstOf txn l at) are first in
    is ∙ ap (λ (l : List Place). remove l at) are ∙ newest_removed txn all at (record { number = 0; at = 0 }) here.inside here.none (here.here _)

pub none_to_remove : (txn : ℕ) (places : List Place) → HasNoneBefore txn places (length places) → (all : List Change) → places ≡ map place_of all
    → places ≡ map place_of (without_newest all txn)
none_to_remove txn places none all are = are ∙ none_removed txn all (subst (λ (l : List Place). HasNoneBefore txn l (length l)) are none)

-- ---- which transactions are not finished

pub insert-is : (n : ℕ) (all : List ℕ) → insert_key nat_cmp all n ≡ with_number n all
insert-is n [] = refl
insert-is n (first ∷ rest) = elim (cases_lt n first) [
  | inl less ↦ rw (lt-ltb n first less) refl
  | inr past ↦ elim (cases_eq n first) [
    | inl is ↦ rw (le-ltb n first past, eq-eqb n first is) refl
    | inr other ↦ rw (le-ltb n first past, ne_eqb n first other) (ap (λ (l : List ℕ). first ∷ l) (insert-is n rest))
  ]
]

pub remove-is : (n : ℕ) (all : List ℕ) → remove_key (is_at (nat_cmp n)) all ≡ without_number n all
remove-is n [] = refl
remove-is n (first ∷ rest) = elim (cases_lt n first) [
  | inl less ↦ rw (lt-ltb n first less, ne_eqb n first (λ same. let is : n ≡ first = same in absurd (omega (arith, less, is))))
      (ap (λ (l : List ℕ). first ∷ l) (remove-is n rest))
  | inr past ↦ elim (cases_eq n first) [
    | inl is ↦ rw (le-ltb n first past, eq-eqb n first is) refl
    | inr other ↦ rw (le-ltb n first past, ne_eqb n first other) (ap (λ (l : List ℕ). first ∷ l) (remove-is n rest))
  ]
]

-- ids stay known after a record of an unfinished transaction, and after the finish of one
pub known_more : (txn : ℕ) (before next : History) → losers_of next ≡ with_number txn (losers_of before) → greatest_txn next ≡ max txn (greatest_txn before)
    → 0 < txn → AreKnown before → AreKnown next
known_more txn before next losers greatest some known = λ k among.
    elim ((with_number_among txn k (losers_of before)).0 (subst (λ (l : List ℕ). IsAmong l k) losers among)) [
      | inl same ↦ (omega (arith, same, some), omega (arith, same, greatest))
      | inr had ↦ let was = known k had in (was.0, omega (arith, was.1, greatest))
    ]

pub known_less : (txn : ℕ) (before next : History) → losers_of next ≡ without_number txn (losers_of before) → greatest_txn next ≡ max txn (greatest_txn before)
    → AreKnown before → AreKnown next
known_less txn before next losers greatest known = λ k among.
    let was = known k (among_within txn k (losers_of before) (subst (λ (l : List ℕ). IsAmong l k) losers among)) in
    (was.0, omega (arith, was.1, greatest))

-- ---- one record more

-- of a transaction that is not finished by it
pub met : {T E : Type 0} (result : Result T E) (txn : ℕ) (before next : History) (old new : Losers) (items : List Place) → AreLosers before old
    → OnOk result (new.pending.items ≡ items) → items ≡ map place_of (all_pending next) → OnOk result (new.unfinished.keys ≡ with_number txn old.unfinished.keys)
    → OnOk result (new.greatest ≡ max txn old.greatest) → losers_of next ≡ with_number txn (losers_of before) → greatest_txn next ≡ max txn (greatest_txn before)
    → 0 < txn → OnOk result (AreLosers next new)
met (Ok done) txn before next old new items are kept pending unfinished greatest losers ids some = record {
  pending_are = kept ∙ pending;
  losers_are = unfinished ∙ ap (with_number txn) are.losers_are ∙ sym losers;
  greatest_is = greatest ∙ ap (λ (n : ℕ). max txn n) are.greatest_is ∙ sym ids;
  known = known_more txn before next losers ids some are.known;
}
met (Err e) txn before next old new items are kept pending unfinished greatest losers ids some = tt

-- its commit or end
pub finished : (txn : ℕ) (before next : History) (old new : Losers) → AreLosers before old
    → new.pending.items ≡ map place_of (all_pending next) → new.unfinished.keys ≡ without_number txn old.unfinished.keys
    → new.greatest ≡ max txn old.greatest → losers_of next ≡ without_number txn (losers_of before) → greatest_txn next ≡ max txn (greatest_txn before)
    → AreLosers next new
finished txn before next old new are pending unfinished greatest losers ids = record {
  pending_are = pending;
  losers_are = unfinished ∙ ap (without_number txn) are.losers_are ∙ sym losers;
  greatest_is = greatest ∙ ap (λ (n : ℕ). max txn n) are.greatest_is ∙ sym ids;
  known = known_less txn before next losers ids are.known;
}
