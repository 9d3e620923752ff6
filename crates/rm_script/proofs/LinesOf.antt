-- The lines of bytes, one after another and counted.
use Rattle.std.proofs.Common.{◌≡◌, ℕ, suc, ◌+◌, ◌-◌, ◌<◌, Bool, true, false, cond, eqb, List, [], ◌∷◌, ◌++◌, length, count_by, Option, Some, None, slice_get, refl, sym, ap, ◌∙◌, arith}
use Rattle.std.specs.List.{onto_first}
use Rattle.std.proofs.lemmas.Bool.Decides.{nat_tests}
use Rattle.std.proofs.lemmas.List.Sums.{sum_by-cons}
use Rattle.rm_script.specs.Lines.{lines_of}
use Rattle.rm_script.specs.Cuts.{Lacks}

pub other_byte : {A : Type 0} (byte other : ℕ) (x y : A) → (byte ≡ other → ⊥) → cond (eqb byte other) x y ≡ y
other_byte byte other x y apart = grind (arith, nat_tests)

-- up to the first LF the bytes are the first line
pub lines_of-cut : (prefix back : List ℕ) → Lacks 10 prefix → lines_of (prefix ++ 10 ∷ back) ≡ prefix ∷ lines_of back
lines_of-cut [] back l = refl
lines_of-cut (x ∷ prefix) back l =
    other_byte x 10 _ _ l.0 ∙ ap (onto_first x) (lines_of-cut prefix back l.1)

-- with no LF they are the one line
pub lines_of-last : (byte : ℕ) (bytes : List ℕ) → Lacks 10 (byte ∷ bytes) → lines_of (byte ∷ bytes) ≡ (byte ∷ bytes) ∷ []
lines_of-last byte [] l = other_byte byte 10 _ _ l.0
lines_of-last byte (x ∷ bytes) l =
    other_byte byte 10 _ _ l.0 ∙ ap (onto_first byte) (lines_of-last x bytes l.1)

-- 1 where a last line lacks its LF
abbrev pub unended : Option ℕ → ℕ
unended None = 0
unended (Some byte) = cond (eqb byte 10) 0 1

one_more : (ends : Bool) (byte : ℕ) (lines : List (List ℕ)) (n m : ℕ) → 0 < length lines → length lines ≡ n + m → length (cond ends ([] ∷ lines) (onto_first byte lines)) ≡ (cond ends 1 0 + n) + m
one_more true byte lines n m some e = omega (arith, e)
one_more false byte [] n m some e = absurd (omega (arith, some))
one_more false byte (line ∷ lines) n m some e = omega (arith, e)

pub some_line : (ends : Bool) (byte : ℕ) (lines : List (List ℕ)) → 0 < length (cond ends ([] ∷ lines) (onto_first byte lines))
some_line true byte lines = omega arith
some_line false byte [] = omega arith
some_line false byte (line ∷ lines) = omega arith

lone_line : (ends : Bool) (byte : ℕ) → length (cond ends ([] ∷ []) (onto_first byte [])) ≡ (0 + cond ends 1 0) + cond ends 0 1
lone_line true byte = refl
lone_line false byte = refl

-- as many lines as LFs, and one more where the last byte is no LF
pub length-lines_of : (bytes : List ℕ) → length (lines_of bytes) ≡ count_by (λ byte. eqb byte 10) bytes + unended (slice_get bytes (length bytes - 1))
length-lines_of [] = refl
length-lines_of (x ∷ []) = lone_line (eqb x 10) x
length-lines_of (x ∷ y ∷ bytes) =
    let rest = y ∷ bytes in
    let last : length (x ∷ rest) - 1 ≡ suc (length rest - 1) = omega arith in
    let count = count_by (λ byte. eqb byte 10) rest in
    one_more (eqb x 10) x (lines_of rest) count (unended (slice_get rest (length rest - 1))) (some_line (eqb y 10) y (lines_of bytes)) (length-lines_of (y ∷ bytes))
    ∙ sym (ap (λ n. n + unended (slice_get (x ∷ rest) (length (x ∷ rest) - 1))) (sum_by-cons (λ byte. cond (eqb byte 10) 1 0) x rest) ∙ ap (λ i. (cond (eqb x 10) 1 0 + count) + unended (slice_get (x ∷ rest) i)) last)
