use Rattle.std.proofs.Common.{◌≡◌, rules}
use Rattle.rm_audit.proofs.Places.{each_more, in_at}
use Rattle.rm_audit.proofs.listings.is_named.Goals as goal

pub returns-then-place-number : goal.returns-then-place-number
returns-then-place-number c = (_, in_at c.args.places.now c.loop-place.place-index (record { number = 0; at = 0 }) (search rules), c.if-place-number.true)

pub loop-place-preserved : goal.loop-place-preserved
loop-place-preserved c =
    each_more (λ place. place.number ≡ c.args.number → ⊥) c.args.places.now c.loop-place.place-index (record { number = 0; at = 0 })
    (search rules) c.loop-place.invariant c.if-place-number.false
