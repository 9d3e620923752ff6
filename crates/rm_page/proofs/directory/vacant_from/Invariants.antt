use Rattle.std.proofs.Common.{ℕ, ◌<◌, ◌≤◌, IsSome}
use Rattle.rm_model.specs.Pages.{row_at}
use Rattle.rm_page.proofs.directory.vacant_from.Given as goal

abbrev pub invariant-loop-number : goal.invariant-loop-number
invariant-loop-number l =
    (other : ℕ) → l.start ≤ other → other < l.number → IsSome (row_at l.slots other)
