-- When two row ids are one place.
use Rattle.std.proofs.Common.{◌≡◌, true, eqb, refl}
use Rattle.std.proofs.lemmas.Bool.{eqb-true, eq-eqb, and_parts, and_from}
use Rattle.rm_types.specs.declared.numbers.Rid.{Rid}
use Rattle.rm_model.specs.Object.{is_same_place}

pub same_place : (a b : Rid) → is_same_place a b ≡ true → a ≡ b
same_place a b same =
    let parts = and_parts (eqb a.page b.page) (eqb a.slot b.slot) same in
    let pages : a.page ≡ b.page = eqb-true a.page b.page parts.0 in
    let slots : a.slot ≡ b.slot = eqb-true a.slot b.slot parts.1 in
    λ i. record { page = pages i; slot = slots i }

pub is_same_place-refl : (a : Rid) → is_same_place a a ≡ true
is_same_place-refl a = and_from (eqb a.page a.page) (eqb a.slot a.slot) (eq-eqb a.page a.page refl) (eq-eqb a.slot a.slot refl)
