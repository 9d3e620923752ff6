-- The list of each transaction's entries.
use Rattle.std.specs.Prelude.{ℕ, Contains, MatchOption}
use Rattle.std.specs.Global.{Vec}
use Rattle.std.specs.BTreeMap.{BTreeMap, get}
use Rattle.rm_types.specs.declared.numbers.Rid.{Rid}
use Rattle.rm_types.specs.declared.numbers.TxnId.{TxnId}
use Rattle.rm_types.specs.contracts.numbers.TxnIdOrd.TheImpl as order
use Rattle.rm_locks.specs.LockTable.{LockTable, IsReady}

-- the row id is in the transaction's list
abbrev pub IsListed : BTreeMap TxnId (Vec Rid) → ℕ → Rid → Type 0
IsListed lists txn rid = MatchOption (get order.ghosts.cmp lists (record { 0 = txn })) ⊥ (λ rids. Contains rids.items rid)

-- each entry is in its transaction's list
abbrev pub AreListed : BTreeMap TxnId (Vec Rid) → LockTable → Type 0
AreListed lists table = (txn : ℕ) (rid : Rid) → IsReady table txn rid → IsListed lists txn rid
