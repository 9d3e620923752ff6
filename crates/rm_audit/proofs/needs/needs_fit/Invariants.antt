use Rattle.std.proofs.Common.{◌≡◌, ℕ, ◌+◌, ◌≤◌, ◌^◌, reverse, vec_len}
use Rattle.rm_model.specs.Sums.{sum_below}
use Rattle.rm_audit.specs.Parts.{need_in}
use Rattle.rm_audit.proofs.needs.needs_fit.Given as goal

abbrev pub invariant-loop-txn : goal.invariant-loop-txn
invariant-loop-txn l =
    (n : ℕ) → 2 ^ 32 ≤ n → sum_below (need_in (reverse l.initial.left.items) l.page) n + l.room ≡ sum_below
    (need_in (reverse l.left.items) l.page) n + l.initial.room

abbrev pub decreases-loop-txn : goal.decreases-loop-txn
decreases-loop-txn l = vec_len l.left
