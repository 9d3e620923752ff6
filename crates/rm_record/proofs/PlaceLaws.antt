-- Places that are read are the places that were written, and what was written is read again.
use Rattle.std.proofs.Common.{◌≡◌, ℕ, zero, suc, ◌+◌, ◌*◌, ◌^◌, ◌<◌, ◌≤◌, List, [], ◌∷◌, ◌++◌, length, Option, Some, None, refl}
use Rattle.std.proofs.Common.{sym, ap, subst, ◌∙◌, append_assoc, arith, length-append}
use Rattle.std.specs.Int.{w16, w32, w64, to_be_bytes}
use Rattle.std.specs.List.{flat_map}
use Rattle.rm_types.specs.declared.places.Place.{Place}
use Rattle.rm_record.specs.Places.{place_bytes, places_bytes, AreBetween, ArePlaces}
use Rattle.rm_record.specs.Records.{AreBytes}
use Rattle.rm_record.specs.Fields.{◌>>=◌, number_field, place_field, entries_field, places_field}
use Rattle.rm_record.proofs.FieldLaws.{bind_some, some_is, Takes, Takes-then, IsField, made_is, both_is, between_is, number_is, wide16, wide32, wide64}

-- ---- one place

pub place_is : (low high : ℕ) → high < 2 ^ 32
    → IsField (place_field low high) place_bytes (λ place. ((low ≤ place.number) × (place.number ≤ high)) × (place.at < 2 ^ 64))
unfolding place_field
place_is low high within =
    made_is (λ (p : ℕ × ℕ). let place : Place = record { number = p.0; at = p.1 } in place) (λ place. (place.number, place.at)) (λ p. refl) (λ place. refl)
    (both_is (between_is w32 (2 ^ 32) low high wide32 within) (number_is w64 (2 ^ 64) wide64))

-- ---- this many places

abbrev pub Entries : Type 0
Entries = List Place × List ℕ

entries_take : (n low high : ℕ) (bytes : List ℕ) (x : Entries) → high < 2 ^ 32 → AreBytes bytes → entries_field n low high bytes ≡ Some x
    → Takes bytes (flat_map place_bytes x.0) x.1 × (length x.0 ≡ n) × AreBetween low high x.0
entries_take zero low high bytes x within fits e =
    let found : Entries = ([], bytes) in
    let whole : Takes bytes [] bytes = record { parts = refl; rest_fits = fits } in
    subst (λ (y : Entries). Takes bytes (flat_map place_bytes y.0) y.1 × (length y.0 ≡ 0) × AreBetween low high y.0) (some_is found x e) (whole, refl, tt)
entries_take (suc n) low high bytes x within fits e =
    let a = bind_some (place_field low high bytes)
    (λ first. entries_field n (first.0.number + 1) high first.1 >>= λ more. Some (first.0 ∷ more.0, more.1)) x e in
    let b = bind_some (entries_field n (a.0.0.number + 1) high a.0.1) (λ more. Some (a.0.0 ∷ more.0, more.1)) x a.2 in
    let p = (place_is low high within).takes bytes a.0 fits a.1 in
    let q = entries_take n (a.0.0.number + 1) high a.0.1 b.0 within p.0.rest_fits b.1 in
    let found : Entries = (a.0.0 ∷ b.0.0, b.0.1) in
    let whole = Takes-then bytes (place_bytes a.0.0) a.0.1 (flat_map place_bytes b.0.0) b.0.1 p.0 q.0 in
    let between : AreBetween low high (a.0.0 ∷ b.0.0) = (p.1.0.0, p.1.0.1, p.1.1, q.2) in
    let long : length (a.0.0 ∷ b.0.0) ≡ suc n = ap suc q.1 in
    subst (λ (y : Entries). Takes bytes (flat_map place_bytes y.0) y.1 × (length y.0 ≡ suc n) × AreBetween low high y.0)
    (some_is found x b.2) (whole, long, between)

entries_again : (places : List Place) (low high : ℕ) (rest : List ℕ) → high < 2 ^ 32 → AreBetween low high places
    → entries_field (length places) low high (flat_map place_bytes places ++ rest) ≡ Some (places, rest)
entries_again [] low high rest within between = refl
entries_again (place ∷ places) low high rest within between =
    ap (entries_field (length (place ∷ places)) low high) (append_assoc (place_bytes place) (flat_map place_bytes places) rest)
    ∙ rw (
      (place_is low high within).again place (flat_map place_bytes places ++ rest) ((between.0, between.1), between.2),
      entries_again places (place.number + 1) high rest within between.3,
    ) refl

-- ---- places

places_take : (low high : ℕ) (bytes : List ℕ) (x : Entries) → high < 2 ^ 32 → AreBytes bytes → places_field low high bytes ≡ Some x
    → Takes bytes (places_bytes x.0) x.1 × ArePlaces low high x.0
unfolding places_field
places_take low high bytes x within fits e =
    let a = bind_some (number_field w16 bytes) (λ n. entries_field n.0 low high n.1) x e in
    let p = (number_is w16 (2 ^ 16) wide16).takes bytes a.0 fits a.1 in
    let q = entries_take a.0.0 low high a.0.1 x within p.0.rest_fits a.2 in
    let whole = Takes-then bytes (to_be_bytes w16 a.0.0) a.0.1 (flat_map place_bytes x.0) x.1 p.0 q.0 in (
      subst (λ (k : ℕ). Takes bytes (to_be_bytes w16 k ++ flat_map place_bytes x.0) x.1) (sym q.1) whole,
      record { few = omega (arith, p.1, q.1); between = q.2 },
    )

places_again : (low high : ℕ) (places : List Place) (rest : List ℕ) → high < 2 ^ 32 → ArePlaces low high places
    → places_field low high (places_bytes places ++ rest) ≡ Some (places, rest)
unfolding places_field
places_again low high places rest within are =
    rw ((number_is w16 (2 ^ 16) wide16).again (length places) (flat_map place_bytes places ++ rest) (omega (arith, are.few)))
    (entries_again places low high rest within are.between)

pub places_are : (low high : ℕ) → high < 2 ^ 32 → IsField (places_field low high) places_bytes (ArePlaces low high)
places_are low high within = record {
  takes = λ bytes x fits e. places_take low high bytes x within fits e;
  again = λ places rest are. places_again low high places rest within are;
}

-- ---- how long they are

pub length-entries : (places : List Place) → length (flat_map place_bytes places) ≡ 12 * length places
length-entries [] = refl
length-entries (place ∷ places) = omega (arith, length-append (place_bytes place) (flat_map place_bytes places), length-entries places)

pub length-places : (places : List Place) → length (places_bytes places) ≡ 2 + 12 * length places
length-places places = omega (arith, length-entries places)

-- there are no more than the numbers that they may have
between_few : (low high : ℕ) (places : List Place) → low ≤ high + 1 → AreBetween low high places → low + length places ≤ high + 1
between_few low high [] below between = omega arith
between_few low high (place ∷ places) below between =
    omega (arith, between.0, between.1, between_few (place.number + 1) high places (omega (arith, between.1)) between.3)

pub places_few : (high : ℕ) (places : List Place) → ArePlaces 0 high places → length places ≤ high + 1
places_few high places are = omega (arith, between_few 0 high places (omega arith) are.between)

-- ---- one place after the other

-- places with more after them
abbrev pub with_more : List Place → Option Entries → Option Entries
with_more places None = None
with_more places (Some more) = Some (places ++ more.0, more.1)

pub with_more_none : (more : Option Entries) → more ≡ with_more [] more
with_more_none None = refl
with_more_none (Some more) = refl

-- one more place, and the rest after it
with_more_one : (places : List Place) (place : Place) (more : Option Entries)
    → with_more places (more >>= λ m. Some (place ∷ m.0, m.1)) ≡ with_more (places ++ place ∷ []) more
with_more_one places place None = refl
with_more_one places place (Some more) =
    ap (λ (l : List Place). let found : Option Entries = Some (l, more.1) in found) (sym (append_assoc places (place ∷ []) more.0))

pub entries_more : (n low high : ℕ) (bytes : List ℕ) (places : List Place) (place : Place) (rest : List ℕ) → place_field low high bytes ≡ Some (place, rest)
    → with_more places (entries_field (suc n) low high bytes) ≡ with_more (places ++ place ∷ []) (entries_field n (place.number + 1) high rest)
entries_more n low high bytes places place rest e =
    rw e (with_more_one places place (entries_field n (place.number + 1) high rest))
