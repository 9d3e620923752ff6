-- A text spells one row at most, and which texts spell none.
use Rattle.std.proofs.Common.{◌≡◌, ℕ, ◌<◌, ◌≤◌, ◌/◌, ◌%◌, List, [], ◌∷◌, inl, inr, get_or, drop, replicate, decimal, Option, Some, None, IfNone, Result, IfOk, refl, sym, ap, ◌∙◌, arith}
use Rattle.std.specs.List.{AllByRecursion}
use Rattle.std.proofs.lemmas.Bool.Decides.{nat_tests}
use Rattle.std.proofs.lemmas.Fmt.{decimal_injective}
use Rattle.std.proofs.lemmas.Result.{IfOk-weaker}
use Rattle.rm_types.specs.declared.rows.TheConstants.{MAX_ROW}
use Rattle.rm_script.specs.Cuts.{IsCut, Lacks}
use Rattle.rm_script.specs.Rows.{IsRepeated, IsWrittenOut, IsRow, hex_digit, hex_byte, hex}
use Rattle.rm_script.proofs.CutLaws.{same_cut, no_cut, Lacks-decimal, Lacks-hex}

hex_digit_injective : (m n : ℕ) → m < 16 → n < 16 → hex_digit m ≡ hex_digit n → m ≡ n
hex_digit_injective m n p q e = grind (arith, nat_tests)

hex_byte_injective : (b c : ℕ) → b < 256 → c < 256 → hex_byte b ≡ hex_byte c → b ≡ c
hex_byte_injective b c p q e =
    let high = hex_digit_injective (b / 16) (c / 16) (omega arith) (omega arith) (ap (λ t. get_or t 0 0) e) in
    let low = hex_digit_injective (b % 16) (c % 16) (omega arith) (omega arith) (ap (λ t. get_or t 1 0) e) in
    omega (arith, high, low)

hex_injective : (row other : List ℕ) → AllByRecursion (λ byte. byte < 256) row → AllByRecursion (λ byte. byte < 256) other → hex row ≡ hex other → row ≡ other
hex_injective [] [] p q e = refl
hex_injective [] (c ∷ other) p q e = cc
hex_injective (b ∷ row) [] p q e = cc
hex_injective (b ∷ row) (c ∷ other) p q e =
    let bytes : hex_byte b ≡ hex_byte c = ap (λ t. get_or t 0 0 ∷ get_or t 1 0 ∷ []) e in
    let first = hex_byte_injective b c p.0 q.0 bytes in
    let rest = hex_injective row other p.1 q.1 (ap (drop 2) e) in cc

same_repeated : (row other text : List ℕ) → IsRepeated row text → IsRepeated other text → row ≡ other
same_repeated row other text a b =
    let cut = same_cut 42 (decimal a.count) (hex_byte a.byte) (decimal b.count) (hex_byte b.byte) (Lacks-decimal 42 a.count (omega arith) (omega (arith, a.short))) (Lacks-decimal 42 b.count (omega arith) (omega (arith, b.short))) (sym a.text_is ∙ b.text_is) in
    let count = decimal_injective a.count b.count (omega (arith, a.short)) (omega (arith, b.short)) cut.0 in
    let byte = hex_byte_injective a.byte b.byte a.is_byte b.is_byte cut.1 in
    a.row_is ∙ (ap (λ n. replicate n a.byte) count ∙ ap (replicate b.count) byte) ∙ sym b.row_is

-- a row is not spelled both as a count and written out
two_forms : (row other text : List ℕ) → IsRepeated row text → IsWrittenOut other text → ⊥
two_forms row other text a b =
    no_cut 42 (hex other) (decimal a.count) (hex_byte a.byte) (Lacks-hex 42 other (omega arith)) (sym b.text_is ∙ a.text_is)

pub same_row : (row other text : List ℕ) → IsRow row text → IsRow other text → row ≡ other
same_row row other text (inl a) (inl b) = same_repeated row other text a b
same_row row other text (inl a) (inr b) = absurd (two_forms row other text a b)
same_row row other text (inr a) (inl b) = absurd (two_forms other row text b a)
same_row row other text (inr a) (inr b) = hex_injective row other a.are_bytes b.are_bytes (sym a.text_is ∙ b.text_is)

-- a row is spelled with a star exactly where it is a count and a byte
pub no_count : (text count byte : List ℕ) → IsCut 42 text count byte → ((n : ℕ) → n ≤ MAX_ROW → count ≡ decimal n → ⊥) → (row : List ℕ) → IsRow row text → ⊥
no_count text count byte cut none row (inl r) =
    let same = same_cut 42 count byte (decimal r.count) (hex_byte r.byte) cut.is_first (Lacks-decimal 42 r.count (omega arith) (omega (arith, r.short))) (sym cut.whole ∙ r.text_is) in
    none r.count r.short same.0
no_count text count byte cut none row (inr w) = no_cut 42 (hex row) count byte (Lacks-hex 42 row (omega arith)) (sym w.text_is ∙ cut.whole)

pub no_byte : (text count byte : List ℕ) → IsCut 42 text count byte → ((value : ℕ) → value < 256 → byte ≡ hex_byte value → ⊥) → (row : List ℕ) → IsRow row text → ⊥
no_byte text count byte cut none row (inl r) =
    let same = same_cut 42 count byte (decimal r.count) (hex_byte r.byte) cut.is_first (Lacks-decimal 42 r.count (omega arith) (omega (arith, r.short))) (sym cut.whole ∙ r.text_is) in
    none r.byte r.is_byte same.1
no_byte text count byte cut none row (inr w) = no_cut 42 (hex row) count byte (Lacks-hex 42 row (omega arith)) (sym w.text_is ∙ cut.whole)

no_written : (text : List ℕ) → Lacks 42 text → ((row : List ℕ) → IsWrittenOut row text → ⊥) → (row : List ℕ) → IsRow row text → ⊥
no_written text whole none row (inl r) = no_cut 42 text (decimal r.count) (hex_byte r.byte) whole r.text_is
no_written text whole none row (inr w) = none row w

none_weaker : {X P Q : Type 0} (o : Option X) → (P → Q) → IfNone o P → IfNone o Q
none_weaker None f h = f h
none_weaker (Some x) f h = tt

-- the same, of what a reader of rows that are written out returned
pub unwritten : {X E : Type 0} (text : List ℕ) (r : Result (Option X) E) → Lacks 42 text → IfOk r (λ found. IfNone found ((row : List ℕ) → IsWrittenOut row text → ⊥)) → IfOk r (λ found. IfNone found ((row : List ℕ) → IsRow row text → ⊥))
unwritten text r whole h = IfOk-weaker r _ _ (λ found. none_weaker found (no_written text whole)) h
