-- Why bytes are refused as a script.
use Rattle.std.specs.Prelude.{ℕ, ◌≤◌, ◌<◌, List, length}
use Rattle.rm_script.specs.declared.limits.Which.{Which}
use Rattle.rm_script.specs.declared.limits.Which.TheVariants as which
use Rattle.rm_script.specs.declared.limits.TheConstants.{MAX_BYTES, MAX_LINES}
use Rattle.rm_script.specs.declared.refused.ScriptRefused.{ScriptRefused}
use Rattle.rm_script.specs.declared.refused.ScriptRefused.TheVariants as refused
use Rattle.rm_script.specs.Grammar.{IsFirstOther, IsFirstWrong}
use Rattle.rm_script.specs.Lines.{lines_of}

-- the bytes are as many, and have as many lines, as those of a script may be
pub record IsWithinLimits (bytes : List ℕ) : Type 0 where
  pub few_bytes : length bytes ≤ MAX_BYTES
  pub few_lines : length (lines_of bytes) ≤ MAX_LINES

-- the bytes have too much of that; bytes are tested before lines, and turns are not looked at
abbrev pub HasTooMuch : List ℕ → Which → Type 0
HasTooMuch bytes which.Bytes = MAX_BYTES < length bytes
HasTooMuch bytes which.Lines = (length bytes ≤ MAX_BYTES) × (MAX_LINES < length (lines_of bytes))
HasTooMuch bytes which.Turns = ⊥

-- the bytes are refused for that reason
abbrev pub Refuses : List ℕ → ScriptRefused → Type 0
Refuses bytes (refused.Bad line) = IsWithinLimits bytes × IsFirstWrong line bytes
Refuses bytes (refused.Limit what) = HasTooMuch bytes what
Refuses bytes refused.NoMemory = Unit {0}

-- they are as one in the plain form
abbrev pub RefusesPlain : List ℕ → ScriptRefused → Type 0
RefusesPlain bytes (refused.Bad line) = IsWithinLimits bytes × IsFirstOther line bytes
RefusesPlain bytes (refused.Limit what) = HasTooMuch bytes what
RefusesPlain bytes refused.NoMemory = Unit {0}
