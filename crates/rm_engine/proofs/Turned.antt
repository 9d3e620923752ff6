-- The parts of a turn, one after the other.
use Rattle.std.proofs.Common.{◌≡◌, inl, ℕ, sym, subst}
use Rattle.rm_types.specs.declared.numbers.Lsn.{Lsn}
use Rattle.rm_plain.specs.declared.lines.Line.{Line}
use Rattle.rm_outside.specs.Images.{Image}
use Rattle.rm_outside.specs.Moments.{LeavesOnly, joined, weaker}
use Rattle.rm_model.specs.Object.{Rows}
use Rattle.rm_session.specs.Session.{State}
use Rattle.rm_wal.specs.Tails.{LogValue}
use Rattle.rm_restart.specs.Sound.{Holds}
use Rattle.rm_engine.specs.At.{IsAt, LeftByTurn}

-- where the session stands, as its parts are named after room was made
pub at_renamed : (pages count : ℕ) (rows : Rows) (old new : State) (log : LogValue) (under last : Lsn) (inserts pending : ℕ) (left : Image → Type 0)
    → new ≡ old → last ≡ under → pending ≡ inserts → IsAt pages count rows old.core log under.0 inserts left → IsAt pages count rows new.core log last.0 pending left
at_renamed pages count rows old new log under last inserts pending left same_session same_under same_inserts at =
    subst (λ (s : State). IsAt pages count rows s.core log last.0 pending left) (sym same_session)
    (subst (λ (l : Lsn). IsAt pages count rows old.core log l.0 pending left) (sym same_under)
    (subst (λ (n : ℕ). IsAt pages count rows old.core log under.0 n left) (sym same_inserts) at))

-- what the whole turn leaves
pub left_by_parts : {before mid now : ℕ} {past half since : ℕ → Image → Type 0} (count : ℕ) (rows : Rows) (old new : State) (asked : Line) → new ≡ old
    → LeavesOnly before mid past half (Holds count rows) → LeavesOnly mid now half since (LeftByTurn count rows new.core asked) → LeavesOnly before now past since (LeftByTurn count rows old.core asked)
left_by_parts count rows old new asked same first second =
    joined (weaker first (λ c holds. inl holds)) (weaker second (λ c left. subst (λ (s : State). LeftByTurn count rows s.core asked c) same left))
