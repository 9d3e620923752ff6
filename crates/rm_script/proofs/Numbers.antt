-- Which texts `parse` reads as decimal numbers, and which of those have a leading zero or a sign.
use Rattle.std.proofs.Common.{◌≡◌, ◌≢◌, ℕ, zero, suc, ◌+◌, ◌-◌, ◌^◌, ◌<◌, ◌≤◌, List, [], ◌∷◌, length, get_or, slice_get, decimal, Some, None, IfSome, IfNone, Result, Ok, Err, MatchResult, sym, ap, ◌∙◌, subst, arith}
use Rattle.std.specs.Result.{result_ok, OkIff}
use Rattle.std.specs.Str.{IsUtf8}
use Rattle.std.specs.Str.Parse.{AllDigits, digits_value, ParsesUnsigned}
use Rattle.std.proofs.lemmas.Fmt.{decimal_is_IsNumeral, decimal_digit, decimal_nonempty, first_decimal, decimal-digits_value, parse-decimal, decimal_injective, IsAscii-decimal}
use Rattle.std.proofs.lemmas.Str.{IsUtf8-from_ascii}
use Rattle.std.proofs.lemmas.Option.{slice_get-get_or, slice_get_within, get_or_from_slice_get}
use Rattle.std.proofs.lemmas.Str.Parse.{IsNumeralModel, numerals_by_value, tells_digits, digit_at, parse_plain}

own : IsNumeralModel (AllDigits 10) (digits_value 10)
own = numerals_by_value (AllDigits 10) tells_digits

-- what a decimal number begins with
pub first_digit : (n : ℕ) → n < 2 ^ 64 → get_or (decimal n) 0 0 < 58
first_digit n small =
    let numeral = (decimal_is_IsNumeral n small).0 in
    let range = digit_at (decimal n) 0 numeral.1 numeral.0 in omega (arith, range)

pub no_plus : (text : List ℕ) (first n : ℕ) → Some first ≡ slice_get text 0 → n < 2 ^ 32 → text ≡ decimal n → first ≢ 43
no_plus text first n is small e plus =
    let numeral = (decimal_is_IsNumeral n (omega arith)).0 in
    let at = get_or_from_slice_get text 0 first 0 (sym is) in
    let same = ap (λ t. get_or t 0 0) e in
    let range = digit_at (decimal n) 0 numeral.1 numeral.0 in
    omega (arith, range, at, same)

pub no_leading_zero : (text : List ℕ) (first n : ℕ) → Some first ≡ slice_get text 0 → n < 2 ^ 32 → text ≡ decimal n → first ≡ 48 → length text ≤ 1
no_leading_zero text first zero is small e led = omega (arith, ap length (e ∙ decimal_digit 0 (omega arith)))
no_leading_zero text first (suc n) is small e led =
    let at = get_or_from_slice_get text 0 first 0 (sym is) in
    let same = ap (λ t. get_or t 0 0) e in
    omega (arith, first_decimal (suc n) (omega arith) (omega arith), at, same)

pub not_empty : (text : List ℕ) (n : ℕ) → None ≡ slice_get text 0 → n < 2 ^ 32 → text ≡ decimal n → ⊥
not_empty text n is small e =
    let some : 0 < length text = omega (arith, decimal_nonempty n (omega arith), ap length e) in
    let read = slice_get-get_or text 0 0 some in cc

-- what was parsed is spelled so
pub parsed : {E : Type 0} (text : List ℕ) (first : ℕ) (r : Result ℕ E) → Some first ≡ slice_get text 0 → first ≢ 43 → (first ≡ 48 → length text ≤ 1) → ParsesUnsigned 32 10 text r → IfSome (result_ok r) (λ n. text ≡ decimal n)
parsed {E = E} text first (Ok n) is plain led h =
    let at = get_or_from_slice_get text 0 first 0 (sym is) in
    let within = slice_get_within text 0 first (sym is) in
    let read = parse_plain own {E = E} 32 text (Ok n) h (λ plus. plain (sym at ∙ plus)) in
    let lone : get_or text 0 0 ≡ 48 → length text ≡ 1 = λ e. omega (arith, led (sym at ∙ e)) in
    sym (ap decimal read.1 ∙ decimal-digits_value own text read.0.0 within lone (omega (arith, read.0.2)))
parsed text first (Err e) is plain led h = tt

-- what was not parsed is no number
pub unparsed : {E : Type 0} (text : List ℕ) (r : Result ℕ E) → ParsesUnsigned 32 10 text r → IfNone (result_ok r) ((n : ℕ) → n < 2 ^ 32 → text ≡ decimal n → ⊥)
unparsed text (Ok n) h = tt
unparsed text (Err d) h = λ n small e. let read = parse-decimal 32 n text (Err d) small (omega arith) e h in cc

-- what stands in a result of which the `Ok` was taken
pub taken : {S E : Type 0} (r : Result S E) (P : S → Type 0) (Q : E → Type 0) (s : S) → Some s ≡ result_ok r → MatchResult r P Q → P s
taken (Ok x) P Q s e h = let same : x ≡ s = cc in subst P same h
taken (Err d) P Q s e h = absurd (cc)

pub not_taken : {S E : Type 0} (r : Result S E) (P : S → Type 0) (Q : E → Type 0) → None ≡ result_ok r → MatchResult r P Q → (d : E) × Q d
not_taken (Ok x) P Q e h = absurd (cc)
not_taken (Err d) P Q e h = (d, h)

-- a number's text is ASCII, and so UTF-8
pub utf8_number : (text : List ℕ) (n : ℕ) → n < 2 ^ 32 → text ≡ decimal n → IsUtf8 text
utf8_number text n small e = subst IsUtf8 (sym e) (IsUtf8-from_ascii (decimal n) (IsAscii-decimal n (omega arith)))

-- a text spells one number
pub same_number : (text : List ℕ) (m n : ℕ) → m < 2 ^ 32 → n < 2 ^ 32 → text ≡ decimal m → text ≡ decimal n → m ≡ n
same_number text m n p q e e' = decimal_injective m n (omega arith) (omega arith) (sym e ∙ e')

-- what a test refused does not hold
pub refused : {E P : Type 0} (r : Result ℕ E) (n : ℕ) → None ≡ result_ok r → OkIff r P n → P → ⊥
refused (Ok m) n e h p = cc
refused (Err d) n e h p = h p

-- one digit is a number
pub one_digit : (text : List ℕ) (n : ℕ) → 1 ≤ length text → length text < 2 → 48 ≤ get_or text 0 0 → get_or text 0 0 < 58 → n ≡ get_or text 0 0 - 48 → text ≡ decimal n
one_digit [] n some few low high e = absurd (omega arith)
one_digit (digit ∷ []) n some few low high e =
    let same : digit ≡ 48 + n = omega arith in ap (λ d. d ∷ []) same ∙ sym (decimal_digit n (omega arith))
one_digit (digit ∷ other ∷ text) n some few low high e = absurd (omega arith)
