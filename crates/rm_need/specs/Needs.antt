-- The bytes reserved on pages for the undo of transactions.
use Rattle.std.specs.Prelude.{◌≡◌, ℕ, ◌≤◌, ◌==◌, if◌then◌else◌, List, Option, IsSome, unwrap_or}
use Rattle.std.specs.Map.{lookup}
use Rattle.std.specs.BTreeMap.{is_at}
use Rattle.rm_types.specs.declared.slots.TheConstants.{CAPACITY}
use Rattle.rm_model.specs.Sums.{sum_below}
use Rattle.rm_need.specs.declared.keys.Key.{Key}
use Rattle.rm_need.specs.contracts.keys.KeyOrd.TheImpl as order

-- entries, each with the bytes of a transaction on a page
abbrev pub Reserved : Type 0
Reserved = List (Key × ℕ)

-- the bytes of a transaction's entry on a page, if it has one
abbrev pub entry_in : Reserved → ℕ → ℕ → Option ℕ
entry_in reserved page txn = lookup (is_at (order.ghosts.cmp (record { txn = record { 0 = txn }; page = page }))) reserved

-- a transaction has an entry on a page
abbrev pub HasEntry : Reserved → ℕ → ℕ → Type 0
HasEntry reserved page txn = IsSome (entry_in reserved page txn)

-- the bytes reserved on a page for a transaction's undo: 0 where it has no entry
abbrev pub need_in : Reserved → ℕ → ℕ → ℕ
need_in reserved page txn = unwrap_or (entry_in reserved page txn) 0

-- the needs on a page, by transaction, with this need for one of them
abbrev pub with_need : Reserved → ℕ → ℕ → ℕ → ℕ → ℕ
with_need reserved page txn need = λ other. if other == txn then need else need_in reserved page other

-- with this need for a transaction, those of all transactions on a page are at most its capacity
abbrev pub HasRoom : Reserved → ℕ → ℕ → ℕ → Type 0
HasRoom reserved page txn need = (n : ℕ) → sum_below (with_need reserved page txn need) n ≤ CAPACITY

-- not this page and this transaction, but another pair
abbrev pub IsOther : ℕ → ℕ → ℕ → ℕ → Type 0
IsOther at by page txn = at ≡ page → by ≡ txn → ⊥
