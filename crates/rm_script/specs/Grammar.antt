-- The grammar of scripts: which lines spell which script, and which line is the first wrong one.
use Rattle.std.specs.Prelude.{◌≡◌, ℕ, suc, ◌+◌, ◌<◌, List, [], ◌∷◌, ◌++◌, length, codes, decimal, map, Vec}
use Rattle.std.specs.List.{AllZip}
use Rattle.std.specs.declared.alloc.Global.{Global}
use Rattle.rm_types.specs.declared.numbers.TheConstants.{MAX_SESSIONS}
use Rattle.rm_events.specs.declared.lines.Line.{Line}
use Rattle.rm_events.specs.declared.lines.Script.{Script}
use Rattle.rm_events.specs.declared.lines.Word.{Word}
use Rattle.rm_script.specs.Lines.{lines_of}
use Rattle.rm_script.specs.Operations.{IsLine, IsWrong}
use Rattle.rm_script.specs.Turns.{IsTurnLine}

-- the line with which the session with this number begins
abbrev pub session_text : ℕ → List ℕ
session_text number = codes "session " ++ decimal number

-- the turn lines spell the words, in a script of this many sessions
abbrev pub AreTurnLines : ℕ → List Word → List (List ℕ) → Type 0
AreTurnLines sessions words [] = words ≡ []
AreTurnLines sessions words (text ∷ texts) = (own rest : List Word) × IsTurnLine sessions own text × AreTurnLines sessions rest texts × (words ≡ own ++ rest)

-- the texts are operation lines
abbrev pub AreLines : List Line → List (List ℕ) → Type 0
AreLines lines texts = AllZip IsLine lines texts

-- what stands after the sessions: nothing, or `turns` and turn lines
abbrev pub IsEnd : ℕ → List Word → List (List ℕ) → Type 0
IsEnd sessions words [] = words ≡ []
IsEnd sessions words (text ∷ texts) = (text ≡ codes "turns") × AreTurnLines sessions words texts

-- what is left of a script in its nth session: lines of that session, further sessions, and turn words
abbrev pub IsLeft : ℕ → List Line → List (List Line) → List Word → List (List ℕ) → Type 0
IsLeft n (said ∷ lines) sessions words [] = ⊥
IsLeft n (said ∷ lines) sessions words (text ∷ texts) = IsLine said text × IsLeft n lines sessions words texts
IsLeft n [] (lines ∷ sessions) words [] = ⊥
IsLeft n [] (lines ∷ sessions) words (text ∷ texts) = (n < MAX_SESSIONS) × (text ≡ session_text (suc n)) × IsLeft (suc n) lines sessions words texts
IsLeft n [] [] words texts = IsEnd n words texts

-- the texts are the lines of a script of these sessions and words
abbrev pub IsScript : List (List Line) → List Word → List (List ℕ) → Type 0
IsScript sessions words texts = IsLeft 0 [] sessions words texts

-- the lines of each session
abbrev pub lines_in : List (Vec Line Global) → List (List Line)
lines_in sessions = map (λ (lines : Vec Line Global). lines.items) sessions

-- the bytes spell the script
abbrev pub Spells : Script → List ℕ → Type 0
Spells script bytes = IsScript (lines_in script.sessions.items) script.words.items (lines_of bytes)

-- some script begins with these lines
abbrev pub BeginsScript : List (List ℕ) → Type 0
BeginsScript texts = (sessions : List (List Line)) × (words : List Word) × (more : List (List ℕ)) × IsScript sessions words (texts ++ more)

-- the line with this number, from 1, is the first that is wrong: a script begins with those before it, and none goes on
-- with it
pub record IsFirstWrong (number : ℕ) (bytes : List ℕ) : Type 0 where
  pub right : List (List ℕ)
  pub wrong : List ℕ
  pub rest : List (List ℕ)
  pub cut : lines_of bytes ≡ right ++ wrong ∷ rest
  pub begins : BeginsScript right
  pub goes_wrong : BeginsScript (right ++ wrong ∷ []) → ⊥
  pub is_number : number ≡ length right + 1

-- the line with this number, from 1, is the first that is no operation line
pub record IsFirstOther (number : ℕ) (bytes : List ℕ) : Type 0 where
  pub lines : List Line
  pub right : List (List ℕ)
  pub wrong : List ℕ
  pub rest : List (List ℕ)
  pub cut : lines_of bytes ≡ right ++ wrong ∷ rest
  pub are_lines : AreLines lines right
  pub is_wrong : IsWrong wrong
  pub is_number : number ≡ length right + 1
