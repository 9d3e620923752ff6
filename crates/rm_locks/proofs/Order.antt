-- The order of the entries.
use Rattle.std.proofs.Common.{◌≡◌, ℕ, ap₂, arith}
use Rattle.std.specs.Cmp.{IsTotalOrder, nat_cmp_total, on_total, then_total}
use Rattle.std.proofs.lemmas.Bool.Decides.{nat_tests}
use Rattle.std.proofs.lemmas.Map.Lookups.{CmpEqualImpliesEq}
use Rattle.rm_types.specs.declared.numbers.Rid.{Rid}
use Rattle.rm_locks.specs.declared.keys.LockKey.{LockKey}
use Rattle.rm_locks.specs.contracts.keys.LockKeyOrd.TheImpl as order

pub same_rid : (a b : Rid) → a.page ≡ b.page → a.slot ≡ b.slot → a ≡ b
same_rid a b page slot = ap₂ (λ (p s : ℕ). let r : Rid = record { page = p; slot = s } in r) page slot

pub total : IsTotalOrder order.ghosts.cmp
total =
    then_total (then_total (on_total (λ (k : LockKey). k.rid.page) nat_cmp_total) (on_total (λ (k : LockKey). k.rid.slot) nat_cmp_total))
    (on_total (λ (k : LockKey). k.txn.0) nat_cmp_total)

pub exact : CmpEqualImpliesEq order.ghosts.cmp
exact x y same =
    ap₂ (λ (r : Rid) (n : ℕ). let k : LockKey = record { rid = r; txn = record { 0 = n } } in k)
    (same_rid x.rid y.rid (grind (arith, nat_tests)) (grind (arith, nat_tests))) (grind (arith, nat_tests))
