use Rattle.std.proofs.Common.{ℕ, ◌<◌, ◌≤◌}
use Rattle.rm_inventory.specs.Inventory.{Excludes}
use Rattle.rm_inventory.proofs.Inventory.first_candidate.Given as goal

abbrev pub invariant-loop-index : goal.invariant-loop-index
invariant-loop-index l = (lower : ℕ) → l.from ≤ lower → lower < l.index → Excludes l.self l.format l.length lower
