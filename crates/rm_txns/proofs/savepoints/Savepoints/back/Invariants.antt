use Rattle.std.proofs.Common.{◌≡◌}
use Rattle.std.specs.VecDeque.{deque_len}
use Rattle.rm_txns.specs.Savepoints.{back_to}
use Rattle.rm_txns.proofs.savepoints.Savepoints.back.Given as goal

abbrev pub invariant-loop-number : goal.invariant-loop-number
invariant-loop-number l = back_to l.number l.self-inside.entries.items ≡ back_to l.number l.initial.self-inside.entries.items

abbrev pub decreases-loop-number : goal.decreases-loop-number
decreases-loop-number l = deque_len l.self-inside.entries
