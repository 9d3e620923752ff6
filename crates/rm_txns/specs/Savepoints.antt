-- The savepoints of a transaction, the newest first.
use Rattle.std.specs.Prelude.{ℕ, Bool, ◌==◌, not, if◌then◌else◌, List, [], ◌∷◌, Option, filter, find}
use Rattle.std.specs.Option.{option_map}
use Rattle.rm_types.specs.declared.numbers.Lsn.{Lsn}
use Rattle.rm_txns.specs.declared.savepoints.Savepoint.{Savepoint}

-- the savepoint has this number
abbrev pub is_of : ℕ → Savepoint → Bool
is_of number savepoint = savepoint.number == number

-- those of other numbers
abbrev pub without : ℕ → List Savepoint → List Savepoint
without number savepoints = filter (λ savepoint. not (is_of number savepoint)) savepoints

-- where the savepoint of a number stands, if there is one
abbrev pub place_of : ℕ → List Savepoint → Option Lsn
place_of number savepoints = option_map (λ savepoint. savepoint.at) (find (is_of number) savepoints)

-- the savepoint of a number and those before it
abbrev pub back_to : ℕ → List Savepoint → List Savepoint
back_to number [] = []
back_to number (newest ∷ older) = if is_of number newest then newest ∷ older else back_to number older
