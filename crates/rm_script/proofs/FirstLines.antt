-- The first line of some bytes.
use Rattle.std.proofs.Common.{◌≡◌, ℕ, ◌<◌, ◌==◌, List, [], ◌∷◌, length, Option, Some, None, IfSome, IfNone, unwrap_or, refl, ap, ◌∙◌, arith}
use Rattle.std.specs.Borrow.{Bor}
use Rattle.rm_script.specs.Cuts.{IsCut, Lacks}
use Rattle.rm_script.specs.Lines.{lines_of}
use Rattle.rm_script.proofs.LinesOf.{lines_of-cut, lines_of-last, some_line}

first_of_cut : (bytes prefix back : List ℕ) → IsCut 10 bytes prefix back → lines_of bytes ≡ prefix ∷ lines_of back
first_of_cut bytes prefix back cut = ap lines_of cut.whole ∙ lines_of-cut prefix back cut.is_first

lone_line : (bytes : List ℕ) → 0 < length bytes → Lacks 10 bytes → lines_of bytes ≡ bytes ∷ []
lone_line [] some whole = absurd (omega (arith, some))
lone_line (byte ∷ bytes) some whole = lines_of-last byte bytes whole

-- the parts of a cut, or else the whole and nothing
abbrev pub Parts : Type 0
Parts = Bor (List ℕ) × Bor (List ℕ)

first_or : (bytes : List ℕ) (found : Option Parts) (whole : Parts) → 0 < length bytes → IfSome found (λ parts. IsCut 10 bytes parts.0.now parts.1.now) → IfNone found (Lacks 10 bytes) → whole.0.now ≡ bytes → whole.1.now ≡ [] → lines_of bytes ≡ (unwrap_or found whole).0.now ∷ lines_of (unwrap_or found whole).1.now
first_or bytes None whole some cut lacks e e' = lone_line bytes some lacks ∙ rw (e, e') refl
first_or bytes (Some parts) whole some cut lacks e e' = first_of_cut bytes parts.0.now parts.1.now cut

pub first_parts : (bytes : List ℕ) (found : Option Parts) (whole parts : Parts) → parts ≡ unwrap_or found whole → 0 < length bytes → IfSome found (λ parts. IsCut 10 bytes parts.0.now parts.1.now) → IfNone found (Lacks 10 bytes) → whole.0.now ≡ bytes → whole.1.now ≡ [] → lines_of bytes ≡ parts.0.now ∷ lines_of parts.1.now
first_parts bytes found whole parts is some cut lacks e e' = rw is (first_or bytes found whole some cut lacks e e')

-- bytes have a line
lines_of_some : (bytes : List ℕ) → 0 < length bytes → 0 < length (lines_of bytes)
lines_of_some [] some = absurd (omega (arith, some))
lines_of_some (byte ∷ bytes) some = some_line (byte == 10) byte (lines_of bytes)

-- so has what is not empty
pub lines_are_left : (bytes : List ℕ) → 0 < length bytes → lines_of bytes ≡ [] → ⊥
lines_are_left bytes some none = omega (arith, lines_of_some bytes some, ap length none)
