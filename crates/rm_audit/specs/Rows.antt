-- Rows in a map.
use Rattle.std.specs.Prelude.{◌≡◌, ℕ, List}
use Rattle.std.specs.BTreeMap.{BTreeMap, get}
use Rattle.rm_types.specs.declared.numbers.Rid.{Rid}
use Rattle.rm_types.specs.contracts.numbers.RidOrd.TheImpl as order
use Rattle.rm_model.specs.Object.{Rows}

-- the map has these rows, and no others
abbrev pub HasRows : BTreeMap Rid (List ℕ) → Rows → Type 0
HasRows map rows = (rid : Rid) → get order.ghosts.cmp map rid ≡ rows rid
