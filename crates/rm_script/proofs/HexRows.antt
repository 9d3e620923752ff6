-- Rows that are written out, byte by byte, and which texts write out none.
use Rattle.std.proofs.Common.{◌≡◌, ℕ, ◌+◌, ◌*◌, ◌<◌, ◌≤◌, List, [], ◌∷◌, ◌++◌, length, get_or, drop, ap, sym, ◌∙◌, refl, arith, length-append, append-nil}
use Rattle.std.proofs.lemmas.List.{nil_from_length}
use Rattle.std.specs.List.{AllByRecursion}
use Rattle.rm_types.specs.declared.rows.TheConstants.{MAX_ROW}
use Rattle.rm_script.specs.Rows.{IsWrittenOut, hex_byte, hex}

abbrev pub AreBytes : List ℕ → Type 0
AreBytes row = AllByRecursion (λ byte. byte < 256) row

pub length-hex : (row : List ℕ) → length (hex row) ≡ 2 * length row
length-hex [] = refl
length-hex (b ∷ row) = omega (arith, length-hex row)

pub AreBytes-push : (row : List ℕ) (byte : ℕ) → AreBytes row → byte < 256 → AreBytes (row ++ byte ∷ [])
AreBytes-push [] byte p q = (q, tt)
AreBytes-push (b ∷ row) byte p q = (p.0, AreBytes-push row byte p.1 q)

-- after the digits of some bytes stand the digits of others
hex_rest : (bytes row rest : List ℕ) → hex bytes ++ rest ≡ hex row → AreBytes row → (tail : List ℕ) × (rest ≡ hex tail) × AreBytes tail
hex_rest [] row rest e p = (row, e, p)
hex_rest (b ∷ bytes) [] rest e p = absurd (cc)
hex_rest (b ∷ bytes) (c ∷ row) rest e p = hex_rest bytes row rest (ap (drop 2) e) p.1

wrong_tail : (rest tail : List ℕ) → rest ≡ hex tail → AreBytes tail → 2 ≤ length rest → ((byte : ℕ) → byte < 256 → get_or rest 0 0 ∷ get_or rest 1 0 ∷ [] ≡ hex_byte byte → ⊥) → ⊥
wrong_tail rest [] e p two wrong = omega (arith, ap length e)
wrong_tail rest (d ∷ tail) e p two wrong = wrong d p.0 (ap (λ t. get_or t 0 0 ∷ get_or t 1 0 ∷ []) e)

-- a text with two bytes in it that are no digits of a byte writes out no row
pub wrong_pair : (text bytes rest row : List ℕ) → text ≡ hex bytes ++ rest → 2 ≤ length rest → ((byte : ℕ) → byte < 256 → get_or rest 0 0 ∷ get_or rest 1 0 ∷ [] ≡ hex_byte byte → ⊥) → IsWrittenOut row text → ⊥
wrong_pair text bytes rest row e two wrong w =
    let tail = hex_rest bytes row rest (sym e ∙ w.text_is) w.are_bytes in
    wrong_tail rest tail.0 tail.1 tail.2 two wrong

-- nor does one with a byte left over
pub odd_digit : (text bytes rest row : List ℕ) → text ≡ hex bytes ++ rest → 0 < length rest → length rest < 2 → IsWrittenOut row text → ⊥
odd_digit text bytes rest row e some few w =
    let tail = hex_rest bytes row rest (sym e ∙ w.text_is) w.are_bytes in
    omega (arith, ap length tail.1, length-hex tail.0)

-- a text that writes out a row has twice its length
pub length_written : (text row : List ℕ) → IsWrittenOut row text → length text ≡ 2 * length row
length_written text row w = ap length w.text_is ∙ length-hex row

-- so has what was read of it
pub length_read : (text bytes rest : List ℕ) → text ≡ hex bytes ++ rest → length text ≡ 2 * length bytes + length rest
length_read text bytes rest e = omega (arith, ap length e, length-append (hex bytes) rest, length-hex bytes)

-- all of the text was read
pub read_out : (text bytes row : List ℕ) (rest : List ℕ) → text ≡ hex bytes ++ rest → AreBytes bytes → length rest ≡ 0 → 0 < length text → length text ≤ 2 * MAX_ROW → row ≡ bytes → IsWrittenOut row text
read_out text bytes row rest e p none some few same = rw same (record {
  nonempty = omega (arith, length_read text bytes rest e);
  short = omega (arith, length_read text bytes rest e);
  are_bytes = p;
  text_is = e ∙ ap (λ t. hex bytes ++ t) (nil_from_length rest none) ∙ append-nil (hex bytes);
})
