-- Bytes that are read one piece after the other.
use Rattle.std.proofs.Common.{◌≡◌, ℕ, ◌+◌, ◌-◌, ◌<◌, ◌≤◌, List, length, take, slice_index, ◌∙◌, sym, ap, inl, inr, arith, rules, length-take}
use Rattle.std.proofs.lemmas.List.{places}
use Rattle.std.proofs.lemmas.Bool.{cases_lt}
use borrow.Rule.Slice.PartMut.{put_mid}
use Rattle.rm_outside.specs.Images.{Bytes, Shows}

module _ (area : Bytes) (at done n : ℕ) (buf piece : List ℕ) (within : done ≤ length buf) (long : length piece ≡ length buf - done) (few : n ≤ length piece) where
  abbrev filled : List ℕ
  filled = put_mid done (length buf - done) buf piece

  early : (k : ℕ) → k < done → slice_index (take done buf) k ≡ slice_index (take (done + n) filled) k
  early k low = search (rules, places)

  late : (k : ℕ) → done ≤ k → k < done + n → slice_index (take n piece) (k - done) ≡ slice_index (take (done + n) filled) k
  late k from to = search (rules, places)

  pub front_more : Shows area at (take done buf) → Shows area (at + done) (take n piece) → Shows area at (take (done + n) filled)
  front_more front back = record {
    each = λ k below.
        let low : k < done + n = omega (arith, below, length-take (done + n) filled) in
        elim (cases_lt k done) [
          | inl soon ↦ front.each k (omega (arith, soon, within, length-take done buf)) ∙ early k soon
          | inr later ↦
              let here : at + done + (k - done) ≡ at + k = omega arith in
              sym (ap area here) ∙ back.each (k - done) (omega (arith, few, length-take n piece)) ∙ late k later low
        ];
  }
