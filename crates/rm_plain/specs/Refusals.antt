-- Why a script is refused.
use Rattle.std.specs.Prelude.{ℕ, ◌<◌, ◌≤◌, List, length}
use Rattle.rm_plain.specs.declared.lines.Which.{Which}
use Rattle.rm_plain.specs.declared.lines.Which.TheVariants as which
use Rattle.rm_plain.specs.Grammar.{IsFirstWrong, IsFirstWrongTurns}
use Rattle.rm_script.specs.declared.limits.TheConstants.{MAX_BYTES, MAX_LINES}
use Rattle.rm_script.specs.Lines.{lines_of}
use Rattle.rm_script.specs.Refusals.{IsWithinLimits}
use Rattle.rm_plain.specs.declared.refused.ScriptRefused.{ScriptRefused}
use Rattle.rm_plain.specs.declared.refused.ScriptRefused.TheVariants as refused

-- the bytes have too much of that; bytes are tested before lines
abbrev pub HasTooMuch : List ℕ → Which → Type 0
HasTooMuch bytes which.Bytes = MAX_BYTES < length bytes
HasTooMuch bytes which.Lines = (length bytes ≤ MAX_BYTES) × (MAX_LINES < length (lines_of bytes))

-- the bytes are refused for that reason, read in the plain form
abbrev pub Refuses : List ℕ → ScriptRefused → Type 0
Refuses bytes (refused.Bad line) = IsWithinLimits bytes × IsFirstWrong line bytes
Refuses bytes (refused.Limit what) = HasTooMuch bytes what
Refuses bytes refused.NoMemory = Unit {0}

-- the same, read in the form of `turns`
abbrev pub RefusesTurns : List ℕ → ScriptRefused → Type 0
RefusesTurns bytes (refused.Bad line) = IsWithinLimits bytes × IsFirstWrongTurns line bytes
RefusesTurns bytes (refused.Limit what) = HasTooMuch bytes what
RefusesTurns bytes refused.NoMemory = Unit {0}
