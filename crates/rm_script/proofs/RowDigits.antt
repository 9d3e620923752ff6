-- The digits that `hex` writes of a row are those of the definitions.
use Rattle.std.proofs.Common.{◌≡◌, ℕ, zero, suc, ◌+◌, ◌/◌, ◌%◌, ◌<◌, ◌==◌, Bool, true, ◌&&◌, inl, inr, List, [], ◌∷◌, ◌++◌, length, take, slice_index, refl, arith, append_assoc, length-append}
use Rattle.std.proofs.lemmas.Bool.{and_parts, cases_lt, eqb-true}
use Rattle.std.proofs.lemmas.List.{take_at}
use Rattle.hex.specs.Hex.{encode_lower, encode_with, lower_digits}
use Rattle.rm_script.specs.Rows.{hex, hex_digit}

-- whether the first n digits of the table are the right ones
abbrev are_same : ℕ → Bool
are_same zero = true
are_same (suc n) = (slice_index lower_digits n == hex_digit n) && are_same n

are_same-at : (n digit : ℕ) → are_same n ≡ true → digit < n → slice_index lower_digits digit ≡ hex_digit digit
are_same-at zero digit h lt = absurd (omega arith)
are_same-at (suc n) digit h lt =
    let parts = and_parts (slice_index lower_digits n == hex_digit n) (are_same n) h in
    elim (cases_lt digit n) [
      | inl below ↦ are_same-at n digit parts.1 below
      | inr top ↦
          let e : digit ≡ n = omega arith in
          rw e (eqb-true (slice_index lower_digits n) (hex_digit n) parts.0)
    ]

lower_digits-is : (digit : ℕ) → digit < 16 → slice_index lower_digits digit ≡ hex_digit digit
lower_digits-is digit lt = are_same-at 16 digit refl lt

pub encode_lower-is : (row : List ℕ) → ((k : ℕ) → slice_index row k < 256) → encode_lower row ≡ hex row
unfolding encode_with
encode_lower-is [] bytes = refl
encode_lower-is (byte ∷ row) bytes =
    let small : byte < 256 = bytes 0 in
    let high = lower_digits-is (byte / 16) (omega arith) in
    let low = lower_digits-is (byte % 16) (omega arith) in
    let rest = encode_lower-is row (λ k. bytes (suc k)) in
    rw (high, low, rest) refl

-- what stands before the cut, once the place after old is written
pub take-written : (old prefix digits other rest more : List ℕ) (n : ℕ) → prefix ≡ old → digits ≡ other → n ≡ length old + length other → take n ((prefix ++ (digits ++ rest)) ++ more) ≡ old ++ other
take-written old prefix digits other rest more n same_front same_digits len =
    let flat : (old ++ (other ++ rest)) ++ more ≡ (old ++ other) ++ (rest ++ more) = simp append_assoc in
    rw (same_front, same_digits, flat) (take_at (old ++ other) (rest ++ more) n (omega (arith, length-append old other)))
