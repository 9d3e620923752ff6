-- How many changes are left without those of a transaction.
use Rattle.std.proofs.Common.{ℕ, ◌<◌, ◌≤◌, List, [], ◌∷◌, length, inl, inr, arith}
use Rattle.std.proofs.lemmas.Bool.{cases_eq, eq-eqb, ne_eqb}
use Rattle.rm_history.specs.Acts.{Change}
use Rattle.rm_history.specs.Pending.{without}
use Rattle.rm_audit.specs.Parts.{IsLed}

-- fewer are left where the newest is of the transaction
pub length-without : (txn : ℕ) (all : List Change) → length (without all txn) ≤ length all
length-without txn [] = omega arith
length-without txn (newest ∷ before) =
    elim (cases_eq newest.txn txn) [
      | inl same ↦ rw (eq-eqb newest.txn txn same) (omega (arith, length-without txn before))
      | inr other ↦ rw (ne_eqb newest.txn txn other) (omega (arith, length-without txn before))
    ]

pub length-without_led : (txn : ℕ) (all : List Change) → IsLed txn all → length (without all txn) < length all
length-without_led txn [] led = absurd led
length-without_led txn (newest ∷ before) led = rw (eq-eqb newest.txn txn led) (omega (arith, length-without txn before))
