-- What holds of all scripts and texts.
use Rattle.std.specs.Prelude.{◌≡◌, ℕ, ◌^◌, ◌<◌, List, [], ◌∷◌, ◌++◌}
use Rattle.rm_types.specs.declared.numbers.Rid.{Rid}
use Rattle.rm_events.specs.declared.lines.Line.{Line}
use Rattle.rm_events.specs.declared.lines.Script.{Script}
use Rattle.rm_events.specs.declared.lines.Word.{Word}
use Rattle.rm_events.specs.declared.operations.Reply.{Reply}
use Rattle.rm_events.specs.declared.operations.Reply.TheVariants as reply
use Rattle.rm_script.specs.Cuts.{Lacks}
use Rattle.rm_script.specs.Grammar.{BeginsScript, IsFirstWrong, IsScript, Spells, lines_in}
use Rattle.rm_script.specs.Texts.{created_line, entry_line, mismatches_line, pages_line, restart_line, row_line, rows_line, text_of, turn_line, unfinished_line, waits_line}

-- no bytes spell two scripts
abbrev pub ReadingsAreOne : Type 0
ReadingsAreOne = (bytes : List ℕ) (script other : Script) → Spells script bytes → Spells other bytes → (lines_in script.sessions.items ≡ lines_in other.sessions.items) × (script.words.items ≡ other.words.items)

-- a script has no wrong line, and any other bytes one at most that is the first
pub record FirstWrongIsOne : Type 0 where
  pub none : (bytes : List ℕ) (script : Script) (number : ℕ) → Spells script bytes → IsFirstWrong number bytes → ⊥
  pub one : (bytes : List ℕ) (number other : ℕ) → IsFirstWrong number bytes → IsFirstWrong other bytes → number ≡ other

-- what a script begins with is one
abbrev pub ScriptsEndAnywhere : Type 0
ScriptsEndAnywhere = (texts : List (List ℕ)) → BeginsScript texts → (sessions : List (List Line)) × (words : List Word) × IsScript sessions words texts

-- a reply whose numbers are in their ranges
abbrev pub IsInRange : Reply → Type 0
IsInRange (reply.Began id) = id.0 < 2 ^ 32
IsInRange (reply.Inserted rid) = (rid.page < 2 ^ 32) × (rid.slot < 2 ^ 16)
IsInRange (reply.PageFull room) = room < 2 ^ 16
IsInRange (reply.Saved number) = number < 2 ^ 8
IsInRange (reply.BackTo number) = number < 2 ^ 8
IsInRange (reply.NoSavepoint number) = number < 2 ^ 8
IsInRange (reply.Died holder) = holder.0 < 2 ^ 32
IsInRange other = Unit {0}

-- one LF, and that at the end
abbrev pub IsOneLine : List ℕ → Type 0
IsOneLine text = (prefix : List ℕ) × Lacks 10 prefix × (text ≡ prefix ++ 10 ∷ [])

-- each text is written as one line, where its numbers are in their ranges
pub record TextsAreLines : Type 0 where
  pub reply : (answer : Reply) → IsInRange answer → IsOneLine (text_of answer)
  pub turn : (session : ℕ) (answer : Reply) → session < 2 ^ 8 → IsInRange answer → IsOneLine (turn_line session answer)
  pub waits : (session holder : ℕ) → session < 2 ^ 8 → holder < 2 ^ 32 → IsOneLine (waits_line session holder)
  pub unfinished : (session txn : ℕ) → session < 2 ^ 8 → txn < 2 ^ 32 → IsOneLine (unfinished_line session txn)
  pub created : (pages : ℕ) → pages < 2 ^ 32 → IsOneLine (created_line pages)
  pub restart : (records applied undone : ℕ) → records < 2 ^ 64 → applied < 2 ^ 64 → undone < 2 ^ 64 → IsOneLine (restart_line records applied undone)
  pub rows : (rows : ℕ) → rows < 2 ^ 64 → IsOneLine (rows_line rows)
  pub row : (rid : Rid) (row : List ℕ) → rid.page < 2 ^ 32 → rid.slot < 2 ^ 16 → IsOneLine (row_line rid row)
  pub entry : (page category : ℕ) → page < 2 ^ 32 → category < 2 ^ 8 → IsOneLine (entry_line page category)
  pub pages : (pages : ℕ) → pages < 2 ^ 32 → IsOneLine (pages_line pages)
  pub mismatches : (pages mismatches : ℕ) → pages < 2 ^ 32 → mismatches < 2 ^ 32 → IsOneLine (mismatches_line pages mismatches)
