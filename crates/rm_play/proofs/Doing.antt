-- The operation that a session is at, and that each of its turns goes on with it or finishes it.
use Rattle.std.specs.Prelude.{◌≡◌, ℕ, Option, Some, None}
use Rattle.rm_core.specs.Below.{Format, Op}
use Rattle.rm_core.specs.Names.{effect, outcome_of, May, Outcome, altering, asked, Aim, undoes_all, returns, Stage, idle, seeks, wants, tries, reads, fetches}
use Rattle.rm_core.specs.Names.{alters, sets, settles, forces, finishes, rolls, prepares, compensates, Seat, State, Turn}
use Rattle.rm_play.specs.{TakesAt}
use Rattle.rm_core.proofs.Names.{nat_tests, arith}
use Rattle.rm_events.specs.declared.operations.Op.TheVariants as ops

abbrev pub DoingAim : Aim → Op → Type 0
DoingAim (undoes_all outcome) op = asked outcome ≡ op
DoingAim (returns number lsn) op = op ≡ ops.Back number

-- the stage is one of this operation
abbrev pub Doing : Stage → Op → Type 0
Doing idle op = Unit {0}
Doing (seeks row from) op = op ≡ ops.Insert row
Doing (wants row on) op = op ≡ ops.Insert row
Doing (tries row on) op = op ≡ ops.Insert row
Doing (reads rid) op = op ≡ ops.Read rid
Doing (fetches rid) op = op ≡ ops.Read rid
Doing (alters rid slot) op = op ≡ altering rid slot
Doing (sets rid slot) op = op ≡ altering rid slot
Doing (settles outcome on) op = (asked outcome ≡ op) × (op ≡ ops.Abort → ⊥)
Doing forces op = op ≡ ops.Commit
Doing finishes op = op ≡ ops.Commit
Doing (rolls aim) op = DoingAim aim op
Doing (prepares aim on) op = DoingAim aim op
Doing (compensates aim on) op = DoingAim aim op

-- a turn that leaves this seat goes on with it, or finishes it, and the transaction where it is an abort
abbrev pub GoesOn : Option Outcome → Seat → Op → Type 0
GoesOn None seat op = Doing seat.stage op
GoesOn (Some outcome) seat op = (asked outcome ≡ op) × (seat.stage ≡ idle) × (op ≡ ops.Abort → seat.txn ≡ 0)

module _ (format : Format) (pages : ℕ) (s : State) (k : ℕ) (seat : Seat) (op : Op) (bare : seat.txn ≡ 0 → seat.stage ≡ idle) where
  -- each turn of a session that is at an operation
  pub goes_on : (turn : Turn) → May format pages s k seat turn → TakesAt seat.stage turn op → Doing seat.stage op
      → GoesOn (outcome_of turn) (effect format s seat turn).seat op
  goes_on turn may takes doing = grind (arith, nat_tests)
