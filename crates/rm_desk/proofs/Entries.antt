-- The entries of rm_locks stand for the machine's grants.
use Rattle.rm_desk.proofs.Names.{◌≡◌, ◌≤◌, ℕ, ◌↔◌, ◌⊎◌, inl, inr, Bool, true, false, IsTrue, if◌then◌else◌, eqb, List, [], ◌∷◌, Option, Some, None, is_some}
use Rattle.rm_desk.proofs.Names.{unwrap_or, IfSome, IfNone, refl, subst, arith, nat_tests, cond_both, false≢true, Mode}
use Rattle.rm_desk.proofs.Names.{Rid, TxnId, MAX_SLOT, HasGrant, HoldsAlone, Blocks, has_it, joined, released, Grant, joined_any, joined_alone}
use Rattle.rm_desk.proofs.Names.{more-released, released-less, alone_has, LockTable, mode_in, entry_in, Holds, is_exclusive, IsLeastBlocker, is_same_lock}
use Rattle.rm_desk.proofs.Names.{raised, Grants, Releases, same_lock, is_alone, IsFree, IsLeastHolder, IsHeld, blocker, number_in, cases_lt}
use Rattle.rm_desk.proofs.Names.{Exclusive, IsSlotForRow, ap, Slot, State, Seat, slot_for, page_of}
use Rattle.rm_desk.specs.Granted.{Stands}
use Rattle.rm_play.proofs.Finding.{IsLeast, Keeps, blocker_is_least, slot_is_for_row}
use Rattle.rm_locks.specs.LockTable.{HoldsAlone as IsExclusive, IsFree as IsFreeIn, Blocks as BlocksIn}

-- ---- who blocks

blocks_same : (entries : LockTable) (grants : List Grant) → Stands entries grants → (other : ℕ) (rid : Rid) (mode : Mode)
    → BlocksIn entries other rid mode ↔ Blocks grants other rid (is_alone mode)
blocks_same entries grants stands other rid mode = grind (arith, nat_tests)

pub free_in : (entries : LockTable) (grants : List Grant) → Stands entries grants → (txn : ℕ) (rid : Rid) (mode : Mode) → IsFree grants txn rid mode
    → IsFreeIn entries txn rid mode
free_in entries grants stands txn rid mode free other apart blocks = free other apart ((blocks_same entries grants stands other rid mode).0 blocks)

pub least : (entries : LockTable) (grants : List Grant) → Stands entries grants → (txn : ℕ) (rid : Rid) (mode : Mode) (found : Option TxnId)
    → IfSome found (λ holder. IsLeastBlocker entries txn rid mode holder.0) → IfSome found (λ holder. IsLeastHolder grants txn rid mode holder.0)
least entries grants stands txn rid mode None is = tt
least entries grants stands txn rid mode (Some holder) is = record {
  other = is.other;
  blocks = (blocks_same entries grants stands holder.0 rid mode).0 is.blocks;
  least = λ lower below apart blocks. is.least lower below apart ((blocks_same entries grants stands lower rid mode).1 blocks);
}

pub none : (entries : LockTable) (grants : List Grant) → Stands entries grants → (txn : ℕ) (rid : Rid) (mode : Mode) (found : Option TxnId)
    → IfNone found (IsFreeIn entries txn rid mode) → IfNone found (IsFree grants txn rid mode)
none entries grants stands txn rid mode None free = λ other apart blocks. free other apart ((blocks_same entries grants stands other rid mode).1 blocks)
none entries grants stands txn rid mode (Some holder) is = tt

-- whether one is found
pub held : (entries : LockTable) (grants : List Grant) → Stands entries grants → (txn : ℕ) (rid : Rid) (found : Option TxnId)
    → IfSome found (λ holder. IsLeastBlocker entries txn rid Exclusive holder.0) → IfNone found (IsFreeIn entries txn rid Exclusive)
    → (IsTrue (is_some found) ↔ IsHeld grants txn rid.page rid.slot) × (IsTrue (is_some found) → rid.slot ≤ MAX_SLOT)
held entries grants stands txn rid None some is =
    ((λ never. absurd (false≢true never), λ refused. absurd (none entries grants stands txn rid Exclusive None is refused.0 refused.1 refused.2)), λ never. absurd (false≢true never))
held entries grants stands txn rid (Some holder) is free =
    let refused = (blocks_same entries grants stands holder.0 rid Exclusive).0 is.blocks in
    ((λ yes. (holder.0, is.other, refused), λ refused. refl), λ yes. stands.placed holder.0 rid refused)

-- ---- the one that the machine names

least_one : (P : ℕ → Type 0) (a b : Option ℕ) → IsLeast P a → IsLeast P b → a ≡ b
least_one P None None is too = refl
least_one P None (Some b) none is = absurd (none b is.0)
least_one P (Some a) None is none = absurd (none a is.0)
least_one P (Some a) (Some b) is too = elim (cases_lt a b) [
  | inl below ↦ absurd (too.1 a below is.0)
  | inr not ↦ elim (cases_lt b a) [ inl below ↦ absurd (is.1 b below too.0) | inr nor ↦ ap Some (omega (arith, not, nor)) ]
]

pub blocker_is : (entries : LockTable) (grants : List Grant) → Stands entries grants → (txn : ℕ) (rid : Rid) (mode : Mode) (found : Option TxnId)
    → IfSome found (λ holder. IsLeastBlocker entries txn rid mode holder.0) → IfNone found (IsFreeIn entries txn rid mode)
    → number_in found ≡ blocker grants txn rid (is_alone mode)
blocker_is entries grants stands txn rid mode found some is =
    least_one (Keeps grants txn rid (is_alone mode)) (number_in found) (blocker grants txn rid (is_alone mode)) (by found some is) (blocker_is_least grants txn rid (is_alone mode))
  where
    by : (found : Option TxnId) → IfSome found (λ holder. IsLeastBlocker entries txn rid mode holder.0) → IfNone found (IsFreeIn entries txn rid mode)
        → IsLeast (Keeps grants txn rid (is_alone mode)) (number_in found)
    by None some is = λ other keeps. none entries grants stands txn rid mode None is other keeps.0 keeps.1
    by (Some holder) some is =
        let it : IsLeastHolder grants txn rid mode holder.0 = least entries grants stands txn rid mode (Some holder) some in
        ((it.other, it.blocks), λ lower below keeps. it.least lower below keeps.0 keeps.1)

pub no_blocker : (grants : List Grant) (txn : ℕ) (rid : Rid) (mode : Mode) → blocker grants txn rid (is_alone mode) ≡ None → IsFree grants txn rid mode
no_blocker grants txn rid mode is other apart blocks =
    let least : IsLeast (Keeps grants txn rid (is_alone mode)) None = subst (IsLeast (Keeps grants txn rid (is_alone mode))) is (blocker_is_least grants txn rid (is_alone mode)) in
    least other (apart, blocks)

-- the slot that the machine takes is the one that is looked for, and no other transaction has a lock on it
slot_one : (IsTaken : ℕ → Type 0) (slots : List Slot) (a b : ℕ) → IsSlotForRow IsTaken slots a → IsSlotForRow IsTaken slots b → a ≡ b
slot_one IsTaken slots a b one two = elim (cases_lt a b) [
  | inl below ↦ absurd (two.least a below one.vacant one.free)
  | inr not ↦ elim (cases_lt b a) [ inl below ↦ absurd (one.least b below two.vacant two.free) | inr nor ↦ omega (arith, not, nor) ]
]

pub slot_is : (s : State) (seat : Seat) (page slot : ℕ) → IsSlotForRow (IsHeld s.grants seat.txn page) (page_of s.history page) slot → slot ≡ slot_for s seat page
slot_is s seat page slot is = slot_one (IsHeld s.grants seat.txn page) (page_of s.history page) slot (slot_for s seat page) is (slot_is_for_row s seat page)

pub not_held : (grants : List Grant) (txn : ℕ) (rid : Rid) → (IsHeld grants txn rid.page rid.slot → ⊥) → blocker grants txn rid true ≡ None
not_held grants txn rid free = by (blocker grants txn rid true) (blocker_is_least grants txn rid true)
  where
    by : (found : Option ℕ) → IsLeast (Keeps grants txn rid true) found → found ≡ None
    by None least = refl
    by (Some other) least = absurd (free (other, least.0.0, least.0.1))

pub slot_free : (s : State) (seat : Seat) (rid : Rid) → rid.slot ≡ slot_for s seat rid.page → blocker s.grants seat.txn rid true ≡ None
slot_free s seat rid is = not_held s.grants seat.txn rid (rw is (slot_is_for_row s seat rid.page).free)

-- ---- a lock more

-- the locks with one more are these and that one
joined_held : (grants : List Grant) (grant : Grant) (txn : ℕ) (rid : Rid) → HasGrant (joined grants grant) txn rid ↔ HasGrant (grant ∷ grants) txn rid
joined_held grants grant txn rid = (
  cond_both (has_it grants grant) grants (grant ∷ grants) (λ l. HasGrant l txn rid → HasGrant (grant ∷ grants) txn rid) (λ is has. inr has) (λ is has. has),
  λ has. elim has [
    | inl now ↦ let at : HasGrant (joined grants grant) grant.txn grant.rid = joined_any grants grant in rw (← now.0, ← now.1) at
    | inr later ↦ cond_both (has_it grants grant) grants (grant ∷ grants) (λ l. HasGrant l txn rid) (λ is. later) (λ is. inr later)
  ],
)

joined_exclusive : (grants : List Grant) (grant : Grant) (txn : ℕ) (rid : Rid) → HoldsAlone (joined grants grant) txn rid ↔ HoldsAlone (grant ∷ grants) txn rid
joined_exclusive grants grant txn rid = (
  cond_both (has_it grants grant) grants (grant ∷ grants) (λ l. HoldsAlone l txn rid → HoldsAlone (grant ∷ grants) txn rid) (λ is has. inr has) (λ is has. has),
  λ has. elim has [
    | inl now ↦ let at : HoldsAlone (joined grants grant) grant.txn grant.rid = joined_alone grants grant now.2 in rw (← now.0, ← now.1) at
    | inr later ↦ cond_both (has_it grants grant) grants (grant ∷ grants) (λ l. HoldsAlone l txn rid) (λ is. later) (λ is. inr later)
  ],
)

-- an exclusive lock stays so where it is raised, and an exclusive mode makes one
raised_is : (held : Option Mode) (mode : Mode) → is_exclusive (Some (raised held mode)) ≡ true → IsTrue (is_alone mode) ⊎ (is_exclusive held ≡ true)
raised_is held mode is = grind (arith, nat_tests)

is_raised : (held : Option Mode) (mode : Mode) → IsTrue (is_alone mode) ⊎ (is_exclusive held ≡ true) → is_exclusive (Some (raised held mode)) ≡ true
is_raised held mode is = grind (arith, nat_tests)

not_same : (txn other : ℕ) (rid at : Rid) → is_same_lock txn rid other at ≡ false → txn ≡ other → rid ≡ at → ⊥
not_same txn other rid at apart txn_is rid_is = grind (arith, nat_tests)

pub granted : (old new : LockTable) (grants : List Grant) → Stands old grants → (txn : ℕ) (rid : Rid) (mode : Mode) → rid.slot ≤ MAX_SLOT → Grants old new txn rid mode
    → Stands new (joined grants (record { txn = txn; rid = rid; alone = is_alone mode }))
granted old new grants stands txn rid mode inside grant_is = record {
  held = λ other at. let both = joined_held grants grant other at in let here = held other at in ((λ has. both.1 (here.0 has)), (λ has. here.1 (both.0 has)));
  alone = λ other at. let both = joined_exclusive grants grant other at in let here = alone other at in ((λ has. both.1 (here.0 has)), (λ has. here.1 (both.0 has)));
  placed = λ other at has. elim ((joined_held grants grant other at).0 has) [ inl now ↦ subst (λ (r : Rid). r.slot ≤ MAX_SLOT) now.1 inside | inr later ↦ stands.placed other at later ];
}
  where
    grant : Grant
    grant = record { txn = txn; rid = rid; alone = is_alone mode }

    held : (other : ℕ) (at : Rid) → Holds new other at ↔ HasGrant (grant ∷ grants) other at
    held other at = rw (grant_is other at) (grind (arith, nat_tests, same_lock, not_same, stands))

    alone : (other : ℕ) (at : Rid) → IsExclusive new other at ↔ HoldsAlone (grant ∷ grants) other at
    alone other at = rw (grant_is other at) (by (is_same_lock txn rid other at) refl)
      where
        by : (b : Bool) → is_same_lock txn rid other at ≡ b
            → (is_exclusive (unwrap_or (if b then Some (Some (raised (mode_in old txn rid) mode)) else entry_in old other at) None) ≡ true) ↔ HoldsAlone (grant ∷ grants) other at
        by true same =
            let it = same_lock txn other rid at same in (
              (λ is. elim (raised_is (mode_in old txn rid) mode is) [ inl so ↦ inl (it.0, it.1, so) | inr so ↦ inr (rw (← it.0, ← it.1) ((stands.alone txn rid).0 so)) ]),
              λ has. is_raised (mode_in old txn rid) mode (elim has [ inl now ↦ inl now.2 | inr later ↦ inr ((stands.alone txn rid).1 (rw (it.0, it.1) later)) ]),
            )
        by false apart = grind (arith, nat_tests, not_same, stands)

-- ---- locks that go

released_none : (grants : List Grant) (txn : ℕ) (rid : Rid) → HasGrant (released grants txn) txn rid → ⊥
released_none [] txn rid has = has
released_none (first ∷ grants) txn rid has = grind (arith, nat_tests, released_none grants txn rid)

pub let_go : (old new : LockTable) (grants : List Grant) → Stands old grants → (txn : ℕ) → Releases old new txn → Stands new (released grants txn)
let_go old new grants stands txn release_is = record {
  held = λ other rid. rw (release_is other rid) (held other rid (eqb txn other) refl);
  alone = λ other rid. rw (release_is other rid) (alone other rid (eqb txn other) refl);
  placed = λ other rid has. stands.placed other rid ((released-less grants txn other rid).any has);
}
  where
    apart : (other : ℕ) → eqb txn other ≡ false → other ≡ txn → ⊥
    apart other differs same = grind (arith, nat_tests)

    held : (other : ℕ) (rid : Rid) (b : Bool) → eqb txn other ≡ b → (is_some (unwrap_or (if b then None else entry_in old other rid) None) ≡ true) ↔ HasGrant (released grants txn) other rid
    held other rid true same = grind (arith, nat_tests, released_none)
    held other rid false differs = (
      (λ is. (more-released grants txn other rid (apart other differs)).any ((stands.held other rid).0 is)),
      λ has. (stands.held other rid).1 ((released-less grants txn other rid).any has),
    )

    alone : (other : ℕ) (rid : Rid) (b : Bool) → eqb txn other ≡ b
        → (is_exclusive (unwrap_or (if b then None else entry_in old other rid) None) ≡ true) ↔ HoldsAlone (released grants txn) other rid
    alone other rid true same =
        ((λ is. absurd (false≢true is)), λ has. absurd (false≢true ((held other rid true same).1 (alone_has (released grants txn) other rid has))))
    alone other rid false differs = (
      (λ is. (more-released grants txn other rid (apart other differs)).alone ((stands.alone other rid).0 is)),
      λ has. (stands.alone other rid).1 ((released-less grants txn other rid).alone has),
    )
