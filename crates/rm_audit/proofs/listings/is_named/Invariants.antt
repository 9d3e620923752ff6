use Rattle.std.proofs.Common.{◌≡◌, take}
use Rattle.rm_types.specs.declared.places.Place.{Place}
use Rattle.rm_history.specs.Rules.{IsIn}
use Rattle.rm_audit.proofs.listings.is_named.Given as goal

abbrev pub invariant-loop-place : goal.invariant-loop-place
invariant-loop-place l = (place : Place) → IsIn (take l.place-index l.places) place → place.number ≡ l.number → ⊥
