-- The transactions that restart undoes and ends.
use Rattle.std.specs.Prelude.{◌≡◌, ℕ, ◌<◌, ◌==◌, nat_lt, if◌then◌else◌, List, [], ◌∷◌, ◌⊎◌}
use Rattle.rm_history.specs.Acts.{History, changes, undoes, enters, commits, ends, marks}

-- a list of numbers that rise, with one more number, and without one
abbrev pub with_number : ℕ → List ℕ → List ℕ
with_number n [] = n ∷ []
with_number n (first ∷ rest) = if nat_lt n first then n ∷ first ∷ rest else if n == first then first ∷ rest else first ∷ with_number n rest

abbrev pub without_number : ℕ → List ℕ → List ℕ
without_number n [] = []
without_number n (first ∷ rest) = if n == first then rest else first ∷ without_number n rest

-- The transactions that have a record and are not finished, in order of their ids.
abbrev pub losers_of : History → List ℕ
losers_of [] = []
losers_of (changes c ∷ before) = with_number c.txn (losers_of before)
losers_of (undoes u ∷ before) = with_number u.txn (losers_of before)
losers_of (enters e ∷ before) = with_number e.txn (losers_of before)
losers_of (commits f ∷ before) = without_number f.txn (losers_of before)
losers_of (ends f ∷ before) = without_number f.txn (losers_of before)
losers_of (marks m ∷ before) = losers_of before

-- the number is in the list
abbrev pub IsAmong : List ℕ → ℕ → Type 0
IsAmong [] n = ⊥
IsAmong (first ∷ rest) n = (first ≡ n) ⊎ IsAmong rest n

-- each number of the list is above those before it
abbrev pub AreRising : List ℕ → Type 0
AreRising [] = Unit {0}
AreRising (first ∷ rest) = ((n : ℕ) → IsAmong rest n → first < n) × AreRising rest
