-- The areas of a volume: which is which, and where each may be read and written.
use Rattle.std.specs.Prelude.{◌≡◌, ℕ, ◌+◌, ◌%◌, ◌/◌, ◌^◌, ◌≤◌, Bool, true, false, IsTrue}
use Rattle.rm_types.specs.declared.areas.Area.{Area}
use Rattle.rm_types.specs.declared.areas.Area.TheVariants.{Master, Log, Data, Space, Copy}

-- whether the two are one area
abbrev pub is_same : Area → Area → Bool
is_same Master Master = true
is_same Log Log = true
is_same Data Data = true
is_same Space Space = true
is_same Copy Copy = true
is_same area other = false

-- the area is read and written in whole blocks
abbrev pub is_blocked : Area → Bool
is_blocked Master = false
is_blocked Log = false
is_blocked Data = true
is_blocked Space = true
is_blocked Copy = true

-- the number of the last block
abbrev pub last_block : Area → ℕ
last_block Master = 0
last_block Log = 0
last_block Data = 16383
last_block Space = 31
last_block Copy = 32799

-- `len` bytes at this offset may be read or written
pub record CanReach (area : Area) (at len : ℕ) : Type 0 where
  pub within : at + len ≤ 2 ^ 49
  pub whole_block : IsTrue (is_blocked area) → (len ≡ 4096) × (at % 4096 ≡ 0) × (at / 4096 ≤ last_block area)
