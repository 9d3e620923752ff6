-- Texts that are cut in two at the first of a byte, and which bytes a field lacks.
use Rattle.std.proofs.Common.{◌≡◌, ◌≢◌, ℕ, ◌^◌, ◌<◌, ◌≤◌, ◌/◌, ◌%◌, ◌==◌, true, not, List, [], ◌∷◌, ◌++◌, decimal, arith}
use Rattle.std.specs.List.{list_all}
use Rattle.std.proofs.lemmas.Bool.{and_parts}
use Rattle.std.proofs.lemmas.Bool.Decides.{nat_tests}
use Rattle.std.proofs.lemmas.Fmt.{decimal_is_IsNumeral}
use Rattle.std.proofs.lemmas.List.Elements.{All-from_get_or, recursion_from_All}
use Rattle.std.proofs.lemmas.Str.Parse.{digit_at}
use Rattle.rm_script.specs.Cuts.{Lacks}
use Rattle.rm_script.specs.Targets.{name_text}
use Rattle.rm_script.specs.Rows.{hex_digit, hex}

-- a text is cut in one way
pub same_cut : (byte : ℕ) (prefix back prefix' back' : List ℕ) → Lacks byte prefix → Lacks byte prefix' → prefix ++ byte ∷ back ≡ prefix' ++ byte ∷ back' → (prefix ≡ prefix') × (back ≡ back')
same_cut byte [] back [] back' l l' e = (cc, cc)
same_cut byte [] back (y ∷ prefix') back' l l' e = absurd (l'.0 (cc))
same_cut byte (x ∷ prefix) back [] back' l l' e = absurd (l.0 (cc))
same_cut byte (x ∷ prefix) back (y ∷ prefix') back' l l' e =
    let rest : prefix ++ byte ∷ back ≡ prefix' ++ byte ∷ back' = cc in
    let same = same_cut byte prefix back prefix' back' l.1 l'.1 rest in
    let prefixes = same.0 in (cc, same.1)

-- a text without the byte is not cut there
pub no_cut : (byte : ℕ) (text prefix back : List ℕ) → Lacks byte text → text ≡ prefix ++ byte ∷ back → ⊥
no_cut byte [] [] back l e = cc
no_cut byte [] (y ∷ prefix) back l e = cc
no_cut byte (x ∷ text) [] back l e = l.0 (cc)
no_cut byte (x ∷ text) (y ∷ prefix) back l e = let rest : text ≡ prefix ++ byte ∷ back = cc in no_cut byte text prefix back l.1 rest

-- decimal digits are none of the marks that end a field
pub Lacks-decimal : (byte n : ℕ) → byte < 48 → n < 2 ^ 64 → Lacks byte (decimal n)
Lacks-decimal byte n low fits =
    let digits = (decimal_is_IsNumeral n fits).0.1 in
    recursion_from_All (λ other. other ≢ byte) (decimal n)
    (All-from_get_or (λ other. other ≢ byte) (decimal n) 0 (λ i within. omega (arith, digit_at (decimal n) i digits within)))

hex_digit-low : (n : ℕ) → 48 ≤ hex_digit n
hex_digit-low n = grind (arith, nat_tests)

-- nor are hexadecimal digits
pub Lacks-hex : (byte : ℕ) (row : List ℕ) → byte < 48 → Lacks byte (hex row)
Lacks-hex byte [] low = tt
Lacks-hex byte (b ∷ row) low =
    (omega (arith, hex_digit-low (b / 16)), (omega (arith, hex_digit-low (b % 16)), Lacks-hex byte row low))

-- nor is what a name has, but for its dollar sign
pub Lacks-name_text : (byte name : ℕ) → byte < 97 → byte ≢ 36 → Lacks byte (name_text name)
Lacks-name_text byte name low other = (omega arith, (omega arith, tt))

-- the same as a test, which computes on fixed texts
pub Lacks-from_test : (byte : ℕ) (text : List ℕ) → list_all (λ other. not (other == byte)) text ≡ true → Lacks byte text
Lacks-from_test byte [] passes = tt
Lacks-from_test byte (other ∷ text) passes =
    let parts = and_parts (not (other == byte)) (list_all (λ other. not (other == byte)) text) passes in
    let apart : other ≢ byte = λ same. grind (arith, nat_tests, parts.0, same) in
    (apart, Lacks-from_test byte text parts.1)

pub Lacks-append : (byte : ℕ) (prefix back : List ℕ) → Lacks byte prefix → Lacks byte back → Lacks byte (prefix ++ back)
Lacks-append byte [] back first second = second
Lacks-append byte (other ∷ prefix) back first second = (first.0, Lacks-append byte prefix back first.1 second)
