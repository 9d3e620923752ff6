-- Two facts of each image that calls may leave; and what a long tail says of a session.
use Rattle.std.proofs.Common.{◌≡◌, ◌⊎◌, inl, inr, ℕ, ◌<◌, true, List, length, ap, ◌∙◌, arith}
use Rattle.std.proofs.lemmas.Bool.{cases_Bool}
use Rattle.rm_outside.specs.Images.{Image}
use Rattle.rm_outside.specs.Moments.{LeavesOnly}
use Rattle.rm_model.specs.Object.{Rows}
use Rattle.rm_session.specs.Session.{Core}
use Rattle.rm_record.specs.Records.{spelling_all}
use Rattle.rm_wal.specs.Tails.{LogValue}
use Rattle.rm_engine.specs.At.{IsAt}

one_or_both : {P Q R : Type 0} → P ⊎ Q → P ⊎ R → P ⊎ (Q × R)
one_or_both (inl p) other = inl p
one_or_both (inr q) (inl p) = inl p
one_or_both (inr q) (inr r) = inr (q, r)

pub both : {before now : ℕ} {past since : ℕ → Image → Type 0} {P Q : Image → Type 0} → LeavesOnly before now past since P → LeavesOnly before now past since Q → LeavesOnly before now past since (λ c. P c × Q c)
both one other = record {
  later = one.later;
  each = λ c left. (one.each c left, other.each c left);
  earlier = λ t c le left. one_or_both (one.earlier t c le left) (other.earlier t c le left);
}

-- a session without a transaction has an empty tail
pub active_of_tail : (pages count : ℕ) (rows : Rows) (core : Core) (log : LogValue) (under inserts : ℕ) (left : Image → Type 0) → IsAt pages count rows core log under inserts left → 0 < length log.tail → core.active ≡ true
active_of_tail pages count rows core log under inserts left at some = elim (cases_Bool core.active) [
  | inl active ↦ active
  | inr idle ↦ absurd (omega (arith, ap (λ (l : List ℕ). length l) (at.tail_is ∙ ap spelling_all (at.idle_tail idle)), some))
]
