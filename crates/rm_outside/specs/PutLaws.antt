-- A write changes its range of its area, and nothing else.
use Rattle.std.proofs.Common.{◌≡◌, ◌<◌, ◌≤◌, inl, inr, ℕ, ◌+◌, ◌-◌, true, false, List, length, replicate, get_or, refl, sym, ◌∙◌, ap, subst, arith}
use Rattle.std.proofs.lemmas.List.{length-replicate}
use Rattle.std.proofs.lemmas.Bool.{cond-true, cond-false, lt-ltb, le-ltb}
use Rattle.rm_types.specs.declared.areas.Area.{Area}
use Rattle.rm_types.specs.declared.areas.Area.TheVariants.{Master, Log, Data, Space, Copy}
use Rattle.rm_outside.specs.Areas.{is_blocked}
use Rattle.rm_outside.specs.Images.{Bytes, Image, Torn, Shows}
use Rattle.rm_outside.specs.Areas.{is_same}
use Rattle.rm_outside.specs.Puts.{put_bytes, put}

pub same-refl : (a : Area) → is_same a a ≡ true
same-refl Master = refl
same-refl Log = refl
same-refl Data = refl
same-refl Space = refl
same-refl Copy = refl

pub same_true : (a b : Area) → is_same a b ≡ true → b ≡ a
same_true Master Master is = refl
same_true Log Log is = refl
same_true Data Data is = refl
same_true Space Space is = refl
same_true Copy Copy is = refl
same_true a b is = cc

pub same_other : (a b : Area) → (b ≡ a → ⊥) → is_same a b ≡ false
same_other a b other = elim (is_same a b) as (λ v. is_same a b ≡ v → v ≡ false) [ true ↦ λ is. absurd (other (same_true a b is)) | false ↦ λ _. refl ] refl

pub put_bytes-below : (old : Bytes) (at : ℕ) (bytes : List ℕ) (k : ℕ) → k < at → put_bytes old at bytes k ≡ old k
put_bytes-below old at bytes k below = cond-true _ _ _ (lt-ltb k at below)

pub put_bytes-above : (old : Bytes) (at : ℕ) (bytes : List ℕ) (k : ℕ) → at + length bytes ≤ k → put_bytes old at bytes k ≡ old k
put_bytes-above old at bytes k above = cond-false _ _ _ (le-ltb k at (omega arith)) ∙ cond-false _ _ _ (le-ltb k (at + length bytes) above)

pub put_bytes-inside : (old : Bytes) (at : ℕ) (bytes : List ℕ) (k : ℕ) → at ≤ k → k < at + length bytes → put_bytes old at bytes k ≡ get_or bytes (k - at) 0
put_bytes-inside old at bytes k from to = cond-false _ _ _ (le-ltb k at from) ∙ cond-true _ _ _ (lt-ltb k (at + length bytes) to)

pub put-same : (image : Image) (area : Area) (at : ℕ) (bytes : List ℕ) → put image area at bytes area ≡ put_bytes (image area) at bytes
put-same image area at bytes = cond-true _ _ _ (same-refl area)

pub put-other : (image : Image) (area : Area) (at : ℕ) (bytes : List ℕ) (other : Area) → (other ≡ area → ⊥) → put image area at bytes other ≡ image other
put-other image area at bytes other differs = cond-false _ _ _ (same_other area other differs)

pub put_shows : (image : Image) (area : Area) (at : ℕ) (bytes : List ℕ) → Shows (put image area at bytes area) at bytes
put_shows image area at bytes = record { each = λ k below. ap (λ (b : Bytes). b (at + k)) (put-same image area at bytes) ∙ put_bytes-inside (image area) at bytes (at + k) (omega arith) (omega arith) ∙ ap (λ (j : ℕ). get_or bytes j 0) (plus at k) }
  where
    plus : (a k : ℕ) → a + k - a ≡ k
    plus a k = omega arith

pub torn_same : (area : Area) (at : ℕ) (bytes : List ℕ) (image : Image) → Torn area at bytes image image
torn_same area at bytes image = record { areas = λ _ _. refl; before = λ _ _. refl; after = λ _ _. refl; whole = λ _. inl refl }

-- a write of the same bytes again
pub torn_then : {area : Area} {at : ℕ} {bytes : List ℕ} {a b c : Image} → Torn area at bytes a b → Torn area at bytes b c → Torn area at bytes a c
torn_then {area} {at} {bytes} {a} {b} {c} one other = record {
  areas = λ rest differs. other.areas rest differs ∙ one.areas rest differs;
  before = λ k below. other.before k below ∙ one.before k below;
  after = λ k above. other.after k above ∙ one.after k above;
  whole = λ blocked. elim (other.whole blocked) [
    | inl same ↦ elim (one.whole blocked) [
      | inl first ↦ inl (same ∙ first)
      | inr shown ↦ inr (subst (λ (there : Bytes). Shows there at bytes) (sym same) shown)
    ]
    | inr shown ↦ inr shown
  ];
}

pub torn_put : (area : Area) (at : ℕ) (bytes : List ℕ) (image : Image) → Torn area at bytes image (put image area at bytes)
torn_put area at bytes image = record {
  areas = put-other image area at bytes;
  before = λ k below. ap (λ (b : Bytes). b k) (put-same image area at bytes) ∙ put_bytes-below (image area) at bytes k below;
  after = λ k above. ap (λ (b : Bytes). b k) (put-same image area at bytes) ∙ put_bytes-above (image area) at bytes k above;
  whole = λ _. inr (put_shows image area at bytes);
}

-- outside the areas of blocks other bytes may stand there
pub torn_filled : (area : Area) (at : ℕ) (bytes : List ℕ) (byte : ℕ) (image : Image) → is_blocked area ≡ false → Torn area at bytes image (put image area at (replicate (length bytes) byte))
torn_filled area at bytes byte image free =
    let filled = replicate (length bytes) byte in
    let long : length filled ≡ length bytes = length-replicate (length bytes) byte in
    record {
      areas = put-other image area at filled;
      before = λ k below. ap (λ (b : Bytes). b k) (put-same image area at filled) ∙ put_bytes-below (image area) at filled k below;
      after = λ k above. ap (λ (b : Bytes). b k) (put-same image area at filled) ∙ put_bytes-above (image area) at filled k (omega arith);
      whole = λ blocked. absurd (cc (free, blocked));
    }
