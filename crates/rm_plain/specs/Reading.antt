-- How far a script has been read.
use Rattle.std.specs.Prelude.{◌≡◌, ℕ, List, ◌∷◌, ◌++◌}
use Rattle.rm_plain.specs.declared.lines.Line.{Line}
use Rattle.rm_plain.specs.Grammar.{AreLines, IsWrong}
use Rattle.rm_script.specs.Lines.{lines_of}

-- the lines are spelled before what is left of the bytes
abbrev pub HasRead : List ℕ → List Line → List ℕ → Type 0
HasRead bytes lines rest = (right : List (List ℕ)) × AreLines lines right × (lines_of bytes ≡ right ++ lines_of rest)

-- the text is not the first of these
abbrev pub LacksFirst : List ℕ → List (List ℕ) → Type 0
LacksFirst text texts = (more : List (List ℕ)) → texts ≡ text ∷ more → ⊥

-- no text that spells a line is the first of these
abbrev pub StopsAt : List (List ℕ) → Type 0
StopsAt texts = (text : List ℕ) (more : List (List ℕ)) → texts ≡ text ∷ more → IsWrong text
