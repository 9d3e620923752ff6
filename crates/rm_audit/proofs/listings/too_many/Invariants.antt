use Rattle.std.proofs.Common.{take}
use Rattle.rm_types.specs.declared.places.Place.{Place}
use Rattle.rm_history.specs.Acts.{acts_of}
use Rattle.rm_history.specs.Transactions.{IsFinished, HasRecord}
use Rattle.rm_history.specs.Rules.{IsIn}
use Rattle.rm_audit.proofs.listings.too_many.Given as goal

abbrev pub invariant-loop-place : goal.invariant-loop-place
invariant-loop-place l =
    (place : Place) → IsIn (take l.place-index l.losers) place → HasRecord (acts_of l.log) place.number ×
    (IsFinished (acts_of l.log) place.number → ⊥)
