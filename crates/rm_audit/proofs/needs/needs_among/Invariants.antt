use Rattle.std.proofs.Common.{ℕ, reverse, vec_len}
use Rattle.rm_audit.specs.NeedMaps.{need_at}
use Rattle.rm_audit.proofs.NeedMaps.{IsPut}
use Rattle.rm_audit.proofs.needs.needs_among.Given as goal

abbrev pub invariant-loop-txn : goal.invariant-loop-txn
invariant-loop-txn l = (txn : ℕ) → IsPut (reverse l.initial.left.items) (reverse l.left.items) l.page txn (need_at l.needs txn)

abbrev pub decreases-loop-txn : goal.decreases-loop-txn
decreases-loop-txn l = vec_len l.left
