-- A lock that is granted.
use Rattle.std.proofs.Common.{◌≡◌, ◌≢◌, ℕ, ◌⊎◌, inl, inr, Bool, true, false, if◌then◌else◌, Option, Some, None, is_some, unwrap_or, refl, sym, ◌∙◌, arith}
use Rattle.std.proofs.lemmas.Bool.Decides.{nat_tests}
use Rattle.rm_types.specs.declared.modes.Mode.{Mode}
use Rattle.rm_types.specs.declared.modes.Mode.TheVariants.{Shared, Exclusive}
use Rattle.rm_types.specs.declared.numbers.Rid.{Rid}
use Rattle.rm_locks.specs.LockTable.{LockTable, entry_in, mode_in, is_exclusive, Holds, HoldsAlone, AreCompatible, is_incompatible, IsFree, is_same_lock, raised, Grants}
use Rattle.rm_locks.proofs.Order.{same_rid}

pub same_lock : (txn other : ℕ) (rid at : Rid) → is_same_lock txn rid other at ≡ true → (txn ≡ other) × (rid ≡ at)
same_lock txn other rid at same = (grind (arith, nat_tests), same_rid rid at (grind (arith, nat_tests)) (grind (arith, nat_tests)))

exclusive_raised : (held : Option Mode) (mode : Mode) → is_exclusive (Some (raised held mode)) ≡ true → (is_exclusive held ≡ true) ⊎ (mode ≡ Exclusive)
exclusive_raised None Shared is = cc
exclusive_raised (Some held) Shared is = inl is
exclusive_raised held Exclusive is = inr refl

exclusive_blocks : (held : Option Mode) (mode : Mode) → is_exclusive held ≡ true → is_incompatible held mode ≡ true
exclusive_blocks held Shared is = is
exclusive_blocks None Exclusive is = cc
exclusive_blocks (Some held) Exclusive is = refl

-- a lock that is granted where it is free is compatible with the others
pub granted_compatible : (old new : LockTable) (txn : ℕ) (rid : Rid) (mode : Mode) → IsFree old txn rid mode → Grants old new txn rid mode → AreCompatible old
    → (one other : ℕ) (at : Rid) → other ≢ one → HoldsAlone new one at → Holds new other at → ⊥
granted_compatible old new txn rid mode free grants compatible one other at apart alone holds =
    by (is_same_lock txn rid one at) refl (is_same_lock txn rid other at) refl (rw (grants one at) at alone) (rw (grants other at) at holds)
  where
    by : (b : Bool) → is_same_lock txn rid one at ≡ b → (d : Bool) → is_same_lock txn rid other at ≡ d
        → is_exclusive (unwrap_or (if b then Some (Some (raised (mode_in old txn rid) mode)) else entry_in old one at) None) ≡ true
        → is_some (unwrap_or (if d then Some (Some (raised (mode_in old txn rid) mode)) else entry_in old other at) None) ≡ true → ⊥
    by true its true another is_alone is_held = apart (sym (same_lock txn other rid at another).0 ∙ (same_lock txn one rid at its).0)
    by true its false another is_alone is_held =
        let same = same_lock txn one rid at its in
        elim (exclusive_raised (mode_in old txn rid) mode is_alone) [
          | inl held ↦ compatible one other at apart (rw (← same.0, ← same.1) held) is_held
          | inr is ↦ free other (λ e. apart (e ∙ same.0)) (rw (is, same.1) is_held)
        ]
    by false its true another is_alone is_held =
        let same = same_lock txn other rid at another in
        free one (λ e. apart (sym (e ∙ same.0))) (exclusive_blocks (mode_in old one rid) mode (rw same.1 is_alone))
    by false its false another is_alone is_held = compatible one other at apart is_alone is_held
