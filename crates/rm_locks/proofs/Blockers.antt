-- The least blocker, as it is looked for.
use Rattle.std.proofs.Common.{◌≡◌, ◌≢◌, ℕ, Bool, true, false, not, ◌||◌, ◌&&◌, ◌==◌, if◌then◌else◌, Option, Some, None, unwrap_or, IfSome, IfNone, All, filter, find, BTreeMap, is_gt, refl, sym, subst, eq-eqb, ne_eqb, arith}
use Rattle.std.specs.declared.ops.Bound.TheVariants.{Included, Unbounded}
use Rattle.std.specs.Cmp.{nat_cmp_total}
use Rattle.std.specs.BTreeMap.{IsOrdered}
use Rattle.std.specs.BTreeMap.Range.{range_contains, IsEntryInRange}
use Rattle.std.proofs.lemmas.Bool.{and_parts}
use Rattle.std.proofs.lemmas.Bool.Decides.{nat_tests}
use Rattle.std.proofs.lemmas.Cmp.{tied_itself}
use Rattle.rm_types.specs.declared.modes.Mode.{Mode}
use Rattle.rm_types.specs.declared.modes.Mode.TheVariants.{Shared, Exclusive}
use Rattle.rm_types.specs.declared.numbers.Rid.{Rid}
use Rattle.rm_types.specs.declared.numbers.TxnId.{TxnId}
use Rattle.rm_locks.specs.declared.keys.LockKey.{LockKey}
use Rattle.rm_locks.specs.contracts.keys.LockKeyOrd.TheImpl as order
use Rattle.rm_locks.specs.LockTable.{LockTable, entry_in, is_incompatible, Blocks, IsFree, IsLeastBlocker}
use Rattle.rm_locks.proofs.Order.{same_rid, total, exact}
use Rattle.rm_locks.proofs.Searches.{find_holds, find_least, IsUpTo}

abbrev pub key_of : Rid → ℕ → LockKey
key_of rid txn = record { rid = rid; txn = record { 0 = txn } }

-- the entry is one in the map, of the row id or after it
abbrev pub IsAfter : BTreeMap LockKey (Option Mode) → Rid → LockKey × Option Mode → Type 0
IsAfter map rid = IsEntryInRange order.ghosts.cmp (Included (key_of rid 0)) Unbounded map

abbrev pub is_after : Rid → LockKey → Bool
is_after rid = range_contains order.ghosts.cmp (Included (key_of rid 0)) Unbounded

-- the entry is on the row id
abbrev pub is_on : Rid → LockKey × Option Mode → Bool
is_on rid e = e.0.rid.page == rid.page && e.0.rid.slot == rid.slot

-- the entry is on another row id, or of another transaction that blocks
abbrev pub stops : ℕ → Rid → Mode → LockKey × Option Mode → Bool
stops txn rid mode e = not (is_on rid e) || (not (e.0.txn.0 == txn) && is_incompatible e.1 mode)

-- the transaction of an entry that is on the row id
abbrev pub txn_on : Rid → Option (LockKey × Option Mode) → Option TxnId
txn_on rid None = None
txn_on rid (Some e) = if is_on rid e then Some e.0.txn else None

-- what blocks is an entry
blocked_by : (entry : Option (Option Mode)) (mode : Mode) → is_incompatible (unwrap_or entry None) mode ≡ true → (held : Option Mode) × (entry ≡ Some held) × (is_incompatible held mode ≡ true)
blocked_by None Shared blocks = cc
blocked_by None Exclusive blocks = cc
blocked_by (Some held) mode blocks = (held, refl, blocks)

-- what the search finds
abbrev pub IsFound : LockTable → ℕ → Rid → Mode → Option TxnId → Type 0
IsFound table txn rid mode found = IfSome found (λ holder. IsLeastBlocker table txn rid mode holder.0) × IfNone found (IsFree table txn rid mode)

-- the search ends at an entry that is not above any that blocks
not_above : (map : BTreeMap LockKey (Option Mode)) → IsOrdered order.ghosts.cmp map → (txn : ℕ) (rid : Rid) (mode : Mode) (r : Option (LockKey × Option Mode))
    → r ≡ find (stops txn rid mode) (filter (λ e. is_after rid e.0) map.entries) → (other : ℕ) → other ≢ txn → Blocks map.entries other rid mode → IsUpTo order.ghosts.cmp (key_of rid other) r
not_above map ordered txn rid mode r is other apart blocks =
    let by = blocked_by (entry_in map.entries other rid) mode blocks in
    rw is
    (find_least total exact (is_after rid) (stops txn rid mode) map.entries ordered (key_of rid other) by.0 by.1
    (rw (tied_itself nat_cmp_total rid.page, tied_itself nat_cmp_total rid.slot) (grind (arith, nat_tests)))
    (rw (eq-eqb rid.page rid.page refl, eq-eqb rid.slot rid.slot refl, ne_eqb other txn apart, by.2) refl))

pub searched : (map : BTreeMap LockKey (Option Mode)) → IsOrdered order.ghosts.cmp map → (txn : ℕ) (rid : Rid) (mode : Mode) → All (IsAfter map rid) (filter (λ e. is_after rid e.0) map.entries)
    → (r : Option (LockKey × Option Mode)) → r ≡ find (stops txn rid mode) (filter (λ e. is_after rid e.0) map.entries) → IsFound map.entries txn rid mode (txn_on rid r)
searched map ordered txn rid mode each None is = (tt, not_above map ordered txn rid mode None is)
searched map ordered txn rid mode each (Some e) is = by (is_on rid e) refl
  where
    held : IsAfter map rid e × (stops txn rid mode e ≡ true)
    held = subst (λ (r : Option (LockKey × Option Mode)). IfSome r (λ x. IsAfter map rid x × (stops txn rid mode x ≡ true))) (sym is) (find_holds (stops txn rid mode) (IsAfter map rid) _ each)

    by : (b : Bool) → is_on rid e ≡ b → IsFound map.entries txn rid mode (if b then Some e.0.txn else None)
    by true on =
        let at : e.0.rid ≡ rid = same_rid e.0.rid rid (grind (arith, nat_tests)) (grind (arith, nat_tests)) in
        let blocking = and_parts (not (e.0.txn.0 == txn)) (is_incompatible e.1 mode) (rw on at held.1) in (
          record {
            other = λ same. let its : (e.0.txn.0 == txn) ≡ true = eq-eqb e.0.txn.0 txn same in cc;
            blocks = rw (← at, held.0.1) blocking.1;
            least = λ lower below apart blocks.
                let upto : is_gt (order.ghosts.cmp e.0 (key_of rid lower)) ≡ false = not_above map ordered txn rid mode (Some e) is lower apart blocks in
                grind (arith, nat_tests, at);
          },
          tt,
        )
    by false off = (
      tt,
      λ other apart blocks.
          let upto : is_gt (order.ghosts.cmp e.0 (key_of rid other)) ≡ false = not_above map ordered txn rid mode (Some e) is other apart blocks in
          grind (arith, nat_tests, held.0.0.0),
    )
