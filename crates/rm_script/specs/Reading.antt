-- How far a script has been read.
use Rattle.std.specs.Prelude.{◌≡◌, ℕ, suc, ◌<◌, ◌≤◌, List, [], ◌∷◌, ◌++◌, length}
use Rattle.rm_types.specs.declared.numbers.TheConstants.{MAX_SESSIONS}
use Rattle.rm_events.specs.declared.lines.Line.{Line}
use Rattle.rm_events.specs.declared.lines.Word.{Word}
use Rattle.rm_script.specs.Grammar.{IsEnd, IsLeft, IsScript, session_text}
use Rattle.rm_script.specs.Lines.{lines_of}
use Rattle.rm_script.specs.Operations.{IsLine}
use Rattle.rm_script.specs.Turns.{IsTurnLine, IsWord}

-- a word that the text spells was put after the others
abbrev pub PutsWord : ℕ → List ℕ → List Word → List Word → Type 0
PutsWord sessions text old new = (given : Word) × IsWord sessions given text × (new ≡ old ++ given ∷ [])

-- words of which that holds were put after the others
abbrev pub Puts : (List Word → Type 0) → List Word → List Word → Type 0
Puts P old new = (own : List Word) × P own × (new ≡ old ++ own)

-- the text is not the first of these
abbrev pub LacksFirst : List ℕ → List (List ℕ) → Type 0
LacksFirst text texts = (more : List (List ℕ)) → texts ≡ text ∷ more → ⊥

-- no text of which that holds is the first of these
abbrev pub StopsAt : (List ℕ → Type 0) → List (List ℕ) → Type 0
StopsAt P texts = (text : List ℕ) → P text → LacksFirst text texts

-- an operation line
abbrev pub IsSomeLine : List ℕ → Type 0
IsSomeLine text = (said : Line) × IsLine said text

-- the texts before what is left of the bytes are such
abbrev pub HasRead : (List (List ℕ) → Type 0) → List ℕ → List ℕ → Type 0
HasRead P bytes rest = (right : List (List ℕ)) × P right × (lines_of bytes ≡ right ++ lines_of rest)

-- after these texts a script goes on as one in which these n sessions are whole
pub record AreSessions (n : ℕ) (sessions : List (List Line)) (right : List (List ℕ)) : Type 0 where
  pub count : length sessions ≡ n
  pub few : n ≤ MAX_SESSIONS
  pub goes_on : (others : List (List Line)) (words : List Word) (more : List (List ℕ)) → IsLeft n [] others words more → IsScript (sessions ++ others) words (right ++ more)
  pub is_left : (all : List (List Line)) (words : List Word) (more : List (List ℕ)) → (0 < n → StopsAt IsSomeLine more) → IsScript all words (right ++ more) → (others : List (List Line)) × IsLeft n [] others words more

-- the sessions stop here: no operation comes next, and no session
pub record SessionsStop (n : ℕ) (texts : List (List ℕ)) : Type 0 where
  pub no_line : 0 < n → StopsAt IsSomeLine texts
  pub no_session : n < MAX_SESSIONS → LacksFirst (session_text (suc n)) texts

-- a turn line
abbrev pub IsSomeTurnLine : ℕ → List ℕ → Type 0
IsSomeTurnLine sessions text = (words : List Word) × IsTurnLine sessions words text

-- the end of a script stands before what is left of the bytes, and no end goes on with what comes next
pub record HasEnd (sessions : ℕ) (words : List Word) (bytes rest : List ℕ) : Type 0 where
  pub right : List (List ℕ)
  pub spelled : IsEnd sessions words right
  pub cut : lines_of bytes ≡ right ++ lines_of rest
  pub stops : StopsAt (λ text. (others : List Word) × (more : List (List ℕ)) × IsEnd sessions others (right ++ text ∷ more)) (lines_of rest)
