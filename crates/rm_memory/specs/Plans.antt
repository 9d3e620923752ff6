-- Which calls of a volume fail.
use Rattle.std.specs.Prelude.{ℕ, ◌==◌, ◌||◌, Bool}
use Rattle.rm_memory.specs.Calls.{lists}
use Rattle.rm_memory.specs.declared.plan.Plan.{Plan}

-- the n-th call from now is listed, counted from 1
abbrev pub lists_call : Plan → ℕ → Bool
lists_call plan = lists plan.fails.items

-- the next call fails, where it is a read or a sync
abbrev pub fails_call : Plan → Bool
fails_call plan = plan.stopped || lists_call plan 1

-- the next call fails, where it is a write
abbrev pub fails_write : Plan → Bool
fails_write plan = fails_call plan || (plan.stops_in == 1)
