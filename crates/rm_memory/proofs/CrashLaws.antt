-- What an outcome leaves is one of the images that a crash may leave.
use Rattle.std.proofs.Common.{◌≡◌, ◌⊎◌, inl, inr, ℕ, Bool, true, false, List, [], ◌∷◌, length, replicate, if◌then◌else◌, refl, sym, ◌∙◌, ap}
use Rattle.std.proofs.lemmas.Bool.{and_parts, or_left, or_right, not-true}
use Rattle.rm_types.specs.declared.areas.Area.{Area}
use Rattle.rm_outside.specs.Areas.{is_blocked}
use Rattle.rm_outside.specs.Images.{Bytes, Image, Torn}
use Rattle.rm_memory.specs.declared.crash.TheConstants.{FILLING}
use Rattle.rm_outside.specs.Areas.{is_same}
use Rattle.rm_outside.specs.Puts.{put_bytes, put}
use Rattle.rm_outside.specs.History.{Event, Write, Sync, content, may_leave}
use Rattle.rm_memory.specs.Crashes.{with_area, unsynced, applies, fills, after_write, left}
use Rattle.rm_outside.specs.PutLaws.{same-refl, put-other, torn_same, torn_put, torn_filled}

-- an area of its own, or another
same_cases : (a b : Area) → (is_same a b ≡ true) ⊎ (is_same a b ≡ false)
same_cases a b = elim (is_same a b) as (λ v. (v ≡ true) ⊎ (v ≡ false)) [ true ↦ inl refl | false ↦ inr refl ]

-- a write of an area in which two images agree keeps them so
put_agrees : (x y : Image) (area : Area) (at : ℕ) (bytes : List ℕ) (other : Area) → x other ≡ y other → put x area at bytes other ≡ put y area at bytes other
put_agrees x y area at bytes other same = elim (is_same area other) as (λ v. (if v then put_bytes (x other) at bytes else x other) ≡ (if v then put_bytes (y other) at bytes else y other)) [
  | true ↦ ap (λ (b : Bytes). put_bytes b at bytes) same
  | false ↦ same
]

-- a write of another area changes nothing of this one, whatever becomes of it
after_write-other : (applied filled : Bool) (image : Image) (area : Area) (at : ℕ) (bytes : List ℕ) (other : Area) → (other ≡ area → ⊥) → after_write applied filled image area at bytes other ≡ image other
after_write-other true filled image area at bytes other differs = put-other image area at bytes other differs
after_write-other false true image area at bytes other differs = put-other image area at (replicate (length bytes) FILLING) other differs
after_write-other false false image area at bytes other differs = refl

content_write-other : (base : Image) (area : Area) (at : ℕ) (bytes : List ℕ) (took : Bool) (rest : List Event) (other : Area) → (other ≡ area → ⊥) → content base (Write area at bytes took ∷ rest) other ≡ content base rest other
unfolding content
content_write-other base area at bytes true rest other differs = put-other (content base rest) area at bytes other differs
content_write-other base area at bytes false rest other differs = refl

-- a synced write is applied where it took, and never fills its range
synced_write : (outcome number : ℕ) (x : Image) (base : Image) (area : Area) (at : ℕ) (bytes : List ℕ) (took : Bool) (rest : List Event) (other : Area) → x other ≡ content base rest other
    → after_write (applies outcome number true took) (fills outcome true area) x area at bytes other ≡ content base (Write area at bytes took ∷ rest) other
unfolding content
synced_write outcome number x base area at bytes true rest other same = put_agrees x (content base rest) area at bytes other same
synced_write outcome number x base area at bytes false rest other same = same

differ : (synced : Area → Bool) (a b : Area) → synced a ≡ true → synced b ≡ false → a ≡ b → ⊥
differ synced a b is_late is_not is = let at_b : synced b ≡ true = sym (ap synced is) ∙ is_late in elim_bool (sym at_b ∙ is_not)
  where
    elim_bool : true ≡ false → ⊥
    elim_bool e = cc

-- of an area that was synced later, the content is left
pub left-synced : (outcome : ℕ) (base : Image) (events : List Event) (synced : Area → Bool) (area : Area) → synced area ≡ true → left outcome base events synced area ≡ content base events area
unfolding left content
left-synced outcome base [] synced area is_late = refl
left-synced outcome base (Sync other ∷ rest) synced area is_late = left-synced outcome base rest (with_area synced other) area (or_right (is_same other area) (synced area) is_late)
left-synced outcome base (Write other at bytes took ∷ rest) synced area is_late =
    let before = left-synced outcome base rest synced area is_late in
    let P : Bool → Type 0 = λ v. synced other ≡ v → after_write (applies outcome (unsynced rest synced) v took) (fills outcome v other) (left outcome base rest synced) other at bytes area ≡ content base (Write other at bytes took ∷ rest) area in
    elim (synced other) as P [
      | true ↦ λ _. synced_write outcome (unsynced rest synced) (left outcome base rest synced) base other at bytes took rest area before
      | false ↦ λ is_not.
          let differs = differ synced area other is_late is_not in
          after_write-other (bit_of took rest synced) (fills outcome false other) (left outcome base rest synced) other at bytes area differs ∙ before ∙ sym (content_write-other base other at bytes took rest area differs)
    ] refl
  where
    bit_of : Bool → List Event → (Area → Bool) → Bool
    bit_of took rest synced = applies outcome (unsynced rest synced) false took

-- what becomes of a write is what a crash may make of it
torn_after : (outcome : ℕ) (applied synced : Bool) (image : Image) (area : Area) (at : ℕ) (bytes : List ℕ) → Torn area at bytes image (after_write applied (fills outcome synced area) image area at bytes)
torn_after outcome true synced image area at bytes = torn_put area at bytes image
torn_after outcome false synced image area at bytes =
    let P : Bool → Type 0 = λ v. fills outcome synced area ≡ v → Torn area at bytes image (after_write false v image area at bytes) in
    elim (fills outcome synced area) as P [
      | true ↦ λ filled. torn_filled area at bytes FILLING image (not-true (is_blocked area) (and_parts _ _ (and_parts _ _ filled).1).1)
      | false ↦ λ _. torn_same area at bytes image
    ] refl

pub left_may_stay : (outcome : ℕ) (base : Image) (events : List Event) (synced : Area → Bool) → may_leave base events (left outcome base events synced)
unfolding left may_leave
left_may_stay outcome base [] synced = refl
left_may_stay outcome base (Sync area ∷ rest) synced =
    (left_may_stay outcome base rest (with_area synced area), left-synced outcome base rest (with_area synced area) area (or_left (is_same area area) (synced area) (same-refl area)))
left_may_stay outcome base (Write area at bytes took ∷ rest) synced =
    (left outcome base rest synced, left_may_stay outcome base rest synced, torn_after outcome (applies outcome (unsynced rest synced) (synced area) took) (synced area) (left outcome base rest synced) area at bytes)
