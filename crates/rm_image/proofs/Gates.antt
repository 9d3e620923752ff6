-- The gates of a log's batches, and those of records, which rise with their LSNs.
use Rattle.std.proofs.Common.{ℕ, ◌≤◌, nat_lt, refl, List, [], ◌∷◌, inl, inr, arith}
use Rattle.std.proofs.lemmas.Bool.{cases_lt, lt-ltb, le-ltb, cond_both}
use Rattle.rm_history.specs.Logs.{Batch, gate_of}
use Rattle.rm_history.specs.Batched.{batch_of, IsGate}
use Rattle.rm_image.specs.Laws.{GatesRise}

-- none is after the last gate
pub within : (batches : List Batch) (lsn : ℕ) → batch_of batches lsn ≤ gate_of batches
within [] lsn = omega arith
within (batch ∷ batches) lsn = elim (cases_lt (gate_of batches) lsn) [
  | inl after ↦ rw (lt-ltb (gate_of batches) lsn after) (omega arith)
  | inr before ↦ rw (le-ltb (gate_of batches) lsn before) (omega (arith, within batches lsn))
]

pub gates_rise : GatesRise
gates_rise [] a b le = omega arith
gates_rise (batch ∷ batches) a b le = elim (cases_lt (gate_of batches) b) [
  | inl after ↦ rw (lt-ltb (gate_of batches) b after) (elim (cases_lt (gate_of batches) a) [
    | inl both ↦ rw (lt-ltb (gate_of batches) a both) (omega arith)
    | inr before ↦ rw (le-ltb (gate_of batches) a before) (within batches a)
  ])
  | inr before ↦ rw (le-ltb (gate_of batches) b before) (rw (le-ltb (gate_of batches) a (omega (arith, le, before))) (gates_rise batches a b le))
]

-- ---- the gates of batches

pub first_gate : (batches : List Batch) → IsGate batches 0
first_gate [] = refl
first_gate (batch ∷ batches) = inr (first_gate batches)

pub last_gate : (batches : List Batch) → IsGate batches (gate_of batches)
last_gate [] = refl
last_gate (batch ∷ batches) = inl refl

pub gate_within : (batches : List Batch) (at : ℕ) → IsGate batches at → at ≤ gate_of batches
gate_within [] at is = omega (arith, is)
gate_within (batch ∷ batches) at (inl is) = omega (arith, is)
gate_within (batch ∷ batches) at (inr earlier) = omega (arith, gate_within batches at earlier)

pub batch_is_gate : (batches : List Batch) (lsn : ℕ) → IsGate batches (batch_of batches lsn)
batch_is_gate [] lsn = refl
batch_is_gate (batch ∷ batches) lsn =
    let is : IsGate batches (batch_of (batch ∷ batches) lsn) =
    cond_both (nat_lt (gate_of batches) lsn) (gate_of batches) (batch_of batches lsn) (IsGate batches)
    (λ after. last_gate batches) (λ before. batch_is_gate batches lsn) in
    inr is
