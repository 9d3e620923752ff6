-- Lists of calls, each by how many calls from now it is, from 1.
use Rattle.std.specs.Prelude.{ℕ, ◌==◌, Bool, List}
use Rattle.std.specs.List.{list_any}

-- the n-th call from now is listed
abbrev pub lists : List ℕ → ℕ → Bool
lists calls n = list_any (λ k. k == n) calls
