-- The tables stand for the sessions after a savepoint is set, and gone back to.
use Rattle.rm_desk.proofs.Names.{◌≡◌, ℕ, ◌+◌, ◌<◌, false, List, [], ◌∷◌, map, length, Option, Some, None, IsSome, IfSome, option_map}
use Rattle.rm_desk.proofs.Names.{refl, sym, ap, subst, arith, nat_tests, ForSome, Lsn, Setting, Sessions, Tables}
use Rattle.rm_desk.proofs.Names.{pending_of, last_of, dropped, upto, idle, rolls, returns, seat_at, Savepoint, Txn, HasId}
use Rattle.rm_desk.proofs.Names.{without, place_of, back_to, Table, txn_of, ChangesOnly, after_save, after_back, Idle, Rolls, is_over}
use Rattle.rm_desk.proofs.Names.{saves_of, seat_from, pending_by, stage_at, saved, rewound, saved_in, Accounts, noted_of, ◌∙◌}
use Rattle.rm_core.specs.Names as core
use Rattle.rm_ops.specs.declared.stages.Aim.TheVariants as aims
use Rattle.rm_desk.specs.Desks.{Stands}
use Rattle.rm_desk.proofs.Standing.{moved_to, has_txn, sits_keep}

-- ---- the lists

dropped_is : (saves : List Savepoint) (number : ℕ) → saves_of (without number saves) ≡ dropped (saves_of saves) number
dropped_is [] number = refl
dropped_is (first ∷ saves) number = grind (arith, nat_tests, dropped_is saves number)

upto_is : (saves : List Savepoint) (number : ℕ) → saves_of (back_to number saves) ≡ upto (saves_of saves) number
upto_is [] number = refl
upto_is (first ∷ saves) number = grind (arith, nat_tests, upto_is saves number)

place_is : (saves : List Savepoint) (number : ℕ) → place_of number saves ≡ saved_in (saves_of saves) number
place_is [] number = refl
place_is (first ∷ saves) number = grind (arith, nat_tests, place_is saves number)

-- ---- the desk

module _ (m : Setting) (t : Tables) (s : Sessions) (stands : Stands m t s) (k : ℕ) (known : k < length s.seats) (some : (seat_at s.seats k).txn ≡ 0 → ⊥) where
  abbrev its : Option Txn
  its = txn_of t.table (k + 1)

  abbrev at : core.Stage
  at = stage_at t k

  has : IsSome its
  has = has_txn m t s stands k known some

  saves_are : (number : ℕ) (txn : Option Txn) → IsSome txn → (found : Option Lsn) → IfSome txn (λ txn. found ≡ place_of number txn.saves) → found ≡ saved_in (seat_from txn at).saves number
  saves_are number None never found is = absurd cc
  saves_are number (Some txn) has found is = is ∙ place_is txn.saves number

  pub savepoint_is : (number : ℕ) (found : Option Lsn) → IfSome its (λ txn. found ≡ place_of number txn.saves) → found ≡ saved_in (seat_at s.seats k).saves number
  savepoint_is number found is = rw (stands.sits k (omega (arith, known, stands.sized))).seat_is (saves_are number its has found is)

  -- another transaction that is accounted for as this one
  accounted : (stage : core.Stage) (f : Txn → Txn) → ((txn : Txn) → ((f txn).id ≡ txn.id) × ((f txn).undo ≡ txn.undo) × ((f txn).owed ≡ txn.owed) × ((f txn).committed ≡ txn.committed))
      → (txn : Option Txn) → is_over (seat_from txn at).stage ≡ false → is_over stage ≡ false → Accounts s.history at txn → Accounts s.history stage (option_map f txn)
  accounted stage f same txn going over is = grind (arith, nat_tests, same)

  same_id : (f : Txn → Txn) → ((txn : Txn) → (f txn).id ≡ txn.id) → (txn : Option Txn) (id : ℕ) → HasId (option_map f txn) id → HasId txn id
  same_id f same txn id has = grind (arith, nat_tests, same)

  same_pending : (f : Txn → Txn) → ((txn : Txn) → (f txn).id ≡ txn.id) → (txn : Option Txn) → pending_by s.history (option_map f txn) ≡ pending_by s.history txn
  same_pending f same txn = grind (arith, nat_tests, same)

  pub save_keeps : (after : Table) (number : ℕ) → is_over (seat_at s.seats k).stage ≡ false → ChangesOnly t.table after (k + 1) (option_map (after_save number) its)
      → Stands m (moved_to t after t.needs t.stacks k Idle) (saved s k number)
  save_keeps after number going only =
      let old = stands.sits k (omega (arith, known, stands.sized)) in
      let now = accounted idle (after_save number) (λ txn. (refl, refl, refl, refl)) its (rw old.seat_is at going) refl old.accounted in
      rw old.seat_is (rw (seat_is its has old.accounted) (sits_keep m t s stands k known after t.stacks (option_map (after_save number) its) Idle
      (same_id (after_save number) (λ txn. refl) its) only (record { here = old.stacked ∙ ap (map noted_of) (sym (same_pending (after_save number) (λ txn. refl) its)); others = λ j apart. refl }) now tt))
    where
      seat_is : (txn : Option Txn) → IsSome txn → Accounts s.history at txn
          → record (seat_from txn at) {
            stage = idle;
            saves = record { number = number; value = last_of (pending_of s.history (seat_from txn at).txn) } ∷ dropped (seat_from txn at).saves number;
          } ≡ seat_from (option_map (after_save number) txn) idle
      seat_is txn has at = grind (arith, nat_tests, dropped_is, at)

  pub rewind_keeps : (after : Table) (number : ℕ) (lsn : Lsn) → is_over (seat_at s.seats k).stage ≡ false → ChangesOnly t.table after (k + 1) (option_map (after_back number) its)
      → Stands m (moved_to t after t.needs t.stacks k (Rolls (aims.Back number lsn))) (rewound s k number lsn.0)
  rewind_keeps after number lsn going only =
      let old = stands.sits k (omega (arith, known, stands.sized)) in
      let now = accounted (rolls (returns number lsn.0)) (after_back number) (λ txn. (refl, refl, refl, refl)) its (rw old.seat_is at going) refl old.accounted in
      rw old.seat_is (rw (seat_is its) (sits_keep m t s stands k known after t.stacks (option_map (after_back number) its) (Rolls (aims.Back number lsn))
      (same_id (after_back number) (λ txn. refl) its) only (record { here = old.stacked ∙ ap (map noted_of) (sym (same_pending (after_back number) (λ txn. refl) its)); others = λ j apart. refl }) now tt))
    where
      seat_is : (txn : Option Txn)
          → record (seat_from txn at) { stage = rolls (returns number lsn.0); saves = upto (seat_from txn at).saves number }
          ≡ seat_from (option_map (after_back number) txn) (rolls (returns number lsn.0))
      seat_is txn = grind (arith, nat_tests, upto_is)

  -- a savepoint that is there has a place in the table
  pub has_place : (number : ℕ) (lsn : Lsn) → saved_in (seat_at s.seats k).saves number ≡ Some lsn → ForSome its (λ txn. IsSome (place_of number txn.saves))
  has_place number lsn there txn txn_is =
      let old = stands.sits k (omega (arith, known, stands.sized)) in
      let saves : saved_in (saves_of txn.saves) number ≡ Some lsn = rw (old.seat_is, txn_is) at there in
      subst IsSome (sym (place_is txn.saves number ∙ saves)) refl
