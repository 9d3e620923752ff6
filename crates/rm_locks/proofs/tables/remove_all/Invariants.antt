use Rattle.std.proofs.Common.{◌≡◌, ◌≢◌, ℕ, Contains, vec_len}
use Rattle.rm_types.specs.declared.numbers.Rid.{Rid}
use Rattle.rm_locks.specs.LockTable.{entry_in, IsReady}
use Rattle.rm_locks.proofs.tables.remove_all.Given as goal

abbrev pub invariant-loop-rid : goal.invariant-loop-rid
invariant-loop-rid l =
    record {
      left : (rid : Rid) → IsReady l.entries.entries l.txn.0 rid → Contains l.rids.items rid;
      others : (other : ℕ) (rid : Rid) → other ≢ l.txn.0 → entry_in l.entries.entries other rid ≡ entry_in l.initial.entries.entries other rid;
    }

abbrev pub decreases-loop-rid : goal.decreases-loop-rid
decreases-loop-rid l = vec_len l.rids
