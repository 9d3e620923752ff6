-- What holds of all scripts and texts.
use Rattle.std.specs.Prelude.{◌≡◌, ℕ, ◌^◌, ◌<◌, List}
use Rattle.rm_types.specs.declared.operations.Reply.{Reply}
use Rattle.rm_types.specs.declared.operations.Reply.TheVariants as reply
use Rattle.rm_plain.specs.declared.lines.Line.{Line}
use Rattle.rm_plain.specs.Grammar.{IsPlain, IsTurns, IsFirstWrongTurns}
use Rattle.rm_plain.specs.Texts.{text_of, turn_line}
use Rattle.rm_script.specs.Laws.{IsOneLine}

-- no bytes spell two scripts
abbrev pub ReadingsAreOne : Type 0
ReadingsAreOne = (bytes : List ℕ) (lines others : List Line) → IsPlain lines bytes → IsPlain others bytes → lines ≡ others

-- in the form of `turns` too
abbrev pub TurnsReadingsAreOne : Type 0
TurnsReadingsAreOne = (bytes : List ℕ) (lines others : List Line) → IsTurns lines bytes → IsTurns others bytes → lines ≡ others

-- a script in that form has no wrong line, and any other bytes one at most that is the first
pub record FirstWrongTurnsIsOne : Type 0 where
  pub none : (bytes : List ℕ) (lines : List Line) (number : ℕ) → IsTurns lines bytes → IsFirstWrongTurns number bytes → ⊥
  pub one : (bytes : List ℕ) (number other : ℕ) → IsFirstWrongTurns number bytes → IsFirstWrongTurns other bytes → number ≡ other

-- a reply whose numbers are in their ranges
abbrev pub IsInRange : Reply → Type 0
IsInRange (reply.Began id) = id.0 < 2 ^ 32
IsInRange (reply.Inserted rid) = (rid.page < 2 ^ 32) × (rid.slot < 2 ^ 16)
IsInRange other = Unit {0}

-- each text is written as one line, where its numbers are in their ranges
pub record TextsAreLines : Type 0 where
  pub reply : (answer : Reply) → IsInRange answer → IsOneLine (text_of answer)
  pub turn : (session : ℕ) (answer : Reply) → session < 2 ^ 8 → IsInRange answer → IsOneLine (turn_line session answer)
