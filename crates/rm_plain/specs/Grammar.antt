-- The forms of a script, the plain one and that of one session: which bytes spell which lines.
use Rattle.std.specs.Prelude.{◌≡◌, ℕ, ◌+◌, ◌<◌, List, [], ◌∷◌, ◌++◌, length, codes}
use Rattle.rm_plain.specs.declared.lines.Line.{Line}
use Rattle.rm_plain.specs.declared.lines.Line.TheVariants as line
use Rattle.rm_script.specs.Lines.{lines_of}
use Rattle.rm_script.specs.Rows.{IsRow}
use Rattle.rm_script.specs.Targets.{IsTarget, name_text}

-- the text spells the line
abbrev pub IsLine : Line → List ℕ → Type 0
IsLine line.Begin text = text ≡ codes "begin"
IsLine (line.Insert name row) text = (name < 26) × ((spelling : List ℕ) × IsRow row spelling × (text ≡ codes "insert " ++ (name_text name ++ (codes " " ++ spelling))))
IsLine (line.Read read) text = (spelling : List ℕ) × IsTarget read spelling × (text ≡ codes "read " ++ spelling)
IsLine line.Commit text = text ≡ codes "commit"

-- the texts spell the lines, one each
abbrev pub AreLines : List Line → List (List ℕ) → Type 0
AreLines [] [] = Unit {0}
AreLines (said ∷ lines) (text ∷ texts) = IsLine said text × AreLines lines texts
AreLines [] (text ∷ texts) = ⊥
AreLines (said ∷ lines) [] = ⊥

-- the bytes are the plain form of a script of these lines
abbrev pub IsPlain : List Line → List ℕ → Type 0
IsPlain lines bytes = AreLines lines (lines_of bytes)

-- the text spells no line
abbrev pub IsWrong : List ℕ → Type 0
IsWrong text = (said : Line) → IsLine said text → ⊥

-- the line with this number, from 1, is the first that is wrong
pub record IsFirstWrong (number : ℕ) (bytes : List ℕ) : Type 0 where
  pub before : List Line
  pub right : List (List ℕ)
  pub wrong : List ℕ
  pub rest : List (List ℕ)
  pub cut : lines_of bytes ≡ right ++ wrong ∷ rest
  pub spelled : AreLines before right
  pub is_wrong : IsWrong wrong
  pub is_number : number ≡ length right + 1

-- the lines of a script of one session: the session's number, its operations, and how they are run
abbrev pub session_texts : List (List ℕ) → List (List ℕ)
session_texts inner = codes "session 1" ∷ inner ++ codes "turns" ∷ codes "finish 200000" ∷ []

-- the texts are such a script, and its operations are these lines
abbrev pub IsSessionForm : List Line → List (List ℕ) → Type 0
IsSessionForm lines texts = (inner : List (List ℕ)) × AreLines lines inner × (texts ≡ session_texts inner)

-- the bytes are the form of `turns` of a script of these lines
abbrev pub IsTurns : List Line → List ℕ → Type 0
IsTurns lines bytes = IsSessionForm lines (lines_of bytes)

-- some script in the form of `turns` begins with these texts
abbrev pub BeginsTurns : List (List ℕ) → Type 0
BeginsTurns texts = (lines : List Line) × (more : List (List ℕ)) × IsSessionForm lines (texts ++ more)

-- after the texts that are right the script ends and is not whole, or the next text makes it wrong
abbrev pub GoesWrong : List (List ℕ) → List (List ℕ) → Type 0
GoesWrong right [] = (lines : List Line) → IsSessionForm lines right → ⊥
GoesWrong right (wrong ∷ rest) = BeginsTurns (right ++ wrong ∷ []) → ⊥

-- of a script for `turns` the line with this number, from 1, is the first that is wrong or lacking
pub record IsFirstWrongTurns (number : ℕ) (bytes : List ℕ) : Type 0 where
  pub right : List (List ℕ)
  pub rest : List (List ℕ)
  pub cut : lines_of bytes ≡ right ++ rest
  pub begins : BeginsTurns right
  pub goes_wrong : GoesWrong right rest
  pub is_number : number ≡ length right + 1
