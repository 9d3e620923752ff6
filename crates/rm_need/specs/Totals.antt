-- The sum of the needs of each page.
use Rattle.std.specs.Prelude.{◌≡◌, ℕ, ◌≤◌, ◌^◌, List, Option, IsSome, unwrap_or}
use Rattle.std.specs.Map.{lookup}
use Rattle.std.specs.Ordering.{nat_cmp}
use Rattle.std.specs.BTreeMap.{is_at}
use Rattle.rm_types.specs.declared.slots.TheConstants.{CAPACITY}
use Rattle.rm_model.specs.Sums.{sum_below}
use Rattle.rm_need.specs.Needs.{Reserved, HasEntry, need_in}

-- the total that is kept of a page, if one is
abbrev pub entry_of : List (ℕ × ℕ) → ℕ → Option ℕ
entry_of totals page = lookup (is_at (nat_cmp page)) totals

-- the total of a page, 0 where none is kept
abbrev pub total_of : List (ℕ × ℕ) → ℕ → ℕ
total_of totals page = unwrap_or (entry_of totals page) 0

-- the totals are the sums of the needs, at most the capacity, and each page with an entry has one
pub record AreTotals (reserved : Reserved) (totals : List (ℕ × ℕ)) : Type 0 where
  pub sums : (page n : ℕ) → 2 ^ 32 ≤ n → sum_below (need_in reserved page) n ≡ total_of totals page
  pub bounded : (page : ℕ) → total_of totals page ≤ CAPACITY
  pub kept : (page txn : ℕ) → HasEntry reserved page txn → IsSome (entry_of totals page)
