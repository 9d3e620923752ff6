-- The operation lines of a session.
use Rattle.std.specs.Prelude.{◌≡◌, ℕ, ◌<◌, List, ◌++◌, codes, decimal}
use Rattle.rm_events.specs.declared.lines.Line.{Line}
use Rattle.rm_events.specs.declared.lines.Line.TheVariants as line
use Rattle.rm_events.specs.declared.lines.Target.{Target}
use Rattle.rm_script.specs.Rows.{IsRow}
use Rattle.rm_script.specs.Targets.{IsTarget, name_text}

-- the text is the word and a target
abbrev pub IsOnTarget : List ℕ → Target → List ℕ → Type 0
IsOnTarget word aim text = (spelling : List ℕ) × IsTarget aim spelling × (text ≡ word ++ spelling)

-- the text is the word and the number of a savepoint
abbrev pub IsOnSavepoint : List ℕ → ℕ → List ℕ → Type 0
IsOnSavepoint word number text = (number < 256) × (text ≡ word ++ decimal number)

-- the text spells the line
abbrev pub IsLine : Line → List ℕ → Type 0
IsLine line.Begin text = text ≡ codes "begin"
IsLine (line.Insert name row) text = (spelling : List ℕ) × (name < 26) × IsRow row spelling × (text ≡ codes "insert " ++ (name_text name ++ (codes " " ++ spelling)))
IsLine (line.Read aim) text = IsOnTarget (codes "read ") aim text
IsLine (line.Update aim row) text = (aimed spelling : List ℕ) × IsTarget aim aimed × IsRow row spelling × (text ≡ codes "update " ++ (aimed ++ (codes " " ++ spelling)))
IsLine (line.Delete aim) text = IsOnTarget (codes "delete ") aim text
IsLine (line.Save number) text = IsOnSavepoint (codes "save ") number text
IsLine (line.Back number) text = IsOnSavepoint (codes "back ") number text
IsLine line.Commit text = text ≡ codes "commit"
IsLine line.Abort text = text ≡ codes "abort"

-- the text spells no line
abbrev pub IsWrong : List ℕ → Type 0
IsWrong text = (said : Line) → IsLine said text → ⊥
