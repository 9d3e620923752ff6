-- Counts of what was read.
use Rattle.std.specs.Prelude.{◌≡◌, ℕ, ◌+◌, ◌≤◌, min}
use Rattle.rm_types.specs.declared.areas.Area.{Area}
use Rattle.rm_types.specs.declared.areas.Area.TheVariants.{Master, Log, Data, Space, Copy}
use Rattle.rm_outside.specs.Faults.{last_count}

-- a count with `by` more; at its last value it stays
abbrev pub raised : ℕ → ℕ → ℕ
raised count by = min (count + by) last_count

-- a read of an area counts as one block of Data, or as none
abbrev pub CountsBlock : Area → ℕ → ℕ → Type 0
CountsBlock Data before after = after ≡ raised before 1
CountsBlock Master before after = after ≡ before
CountsBlock Log before after = after ≡ before
CountsBlock Space before after = after ≡ before
CountsBlock Copy before after = after ≡ before

-- a read of `len` bytes that succeeded counts as `len` bytes of Log, or as none
abbrev pub CountsBytes : Area → ℕ → ℕ → ℕ → Type 0
CountsBytes Log len before after = after ≡ raised before len
CountsBytes Master len before after = after ≡ before
CountsBytes Data len before after = after ≡ before
CountsBytes Space len before after = after ≡ before
CountsBytes Copy len before after = after ≡ before

-- one that failed counts as at most as many
abbrev pub CountsAtMost : Area → ℕ → ℕ → ℕ → Type 0
CountsAtMost Log len before after = (before ≤ after) × (after ≤ raised before len)
CountsAtMost Master len before after = after ≡ before
CountsAtMost Data len before after = after ≡ before
CountsAtMost Space len before after = after ≡ before
CountsAtMost Copy len before after = after ≡ before
