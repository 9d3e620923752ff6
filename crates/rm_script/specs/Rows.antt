-- The spellings of rows.
use Rattle.std.specs.Prelude.{◌≡◌, ℕ, ◌+◌, ◌/◌, ◌%◌, ◌≤◌, ◌<◌, nat_lt, if◌then◌else◌, List, [], ◌∷◌, ◌++◌, length, replicate, codes, decimal, ◌⊎◌}
use Rattle.std.specs.List.{AllByRecursion, flat_map}
use Rattle.rm_types.specs.declared.rows.TheConstants.{MAX_ROW}

-- one hexadecimal digit, in lower case
abbrev pub hex_digit : ℕ → ℕ
hex_digit n = if nat_lt n 10 then 48 + n else 87 + n

-- a byte as two of them
abbrev pub hex_byte : ℕ → List ℕ
hex_byte byte = hex_digit (byte / 16) ∷ hex_digit (byte % 16) ∷ []

-- a row as two digits for each byte
abbrev pub hex : List ℕ → List ℕ
hex row = flat_map hex_byte row

-- a row as a count, a star and a byte: that byte as often
pub record IsRepeated (row text : List ℕ) : Type 0 where
  pub count : ℕ
  pub byte : ℕ
  pub short : count ≤ MAX_ROW
  pub is_byte : byte < 256
  pub row_is : row ≡ replicate count byte
  pub text_is : text ≡ decimal count ++ (codes "*" ++ hex_byte byte)

-- a row written out, which is not empty
pub record IsWrittenOut (row text : List ℕ) : Type 0 where
  pub nonempty : 0 < length row
  pub short : length row ≤ MAX_ROW
  pub are_bytes : AllByRecursion (λ byte. byte < 256) row
  pub text_is : text ≡ hex row

-- the text spells the row
abbrev pub IsRow : List ℕ → List ℕ → Type 0
IsRow row text = IsRepeated row text ⊎ IsWrittenOut row text
