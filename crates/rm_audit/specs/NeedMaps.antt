-- Needs in a map.
use Rattle.std.specs.Prelude.{◌≡◌, ℕ, unwrap_or}
use Rattle.std.specs.BTreeMap.{BTreeMap, get}
use Rattle.rm_types.specs.declared.numbers.TxnId.{TxnId}
use Rattle.rm_types.specs.contracts.numbers.TxnIdOrd.TheImpl as order

-- what the map has for a transaction, 0 where it has nothing
abbrev pub need_at : BTreeMap TxnId ℕ → ℕ → ℕ
need_at map txn = unwrap_or (get order.ghosts.cmp map (record { 0 = txn })) 0

-- the map has these needs
abbrev pub HasNeeds : BTreeMap TxnId ℕ → (ℕ → ℕ) → Type 0
HasNeeds map needs = (txn : ℕ) → need_at map txn ≡ needs txn
