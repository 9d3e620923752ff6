use Rattle.std.proofs.Common.{◌≡◌, rules}
use Rattle.rm_history.specs.Acts.{acts_of}
use Rattle.rm_history.specs.Pending.{last_of, pending_of}
use Rattle.rm_audit.proofs.Places.{each_more, in_at}
use Rattle.rm_audit.proofs.listings.misplaced.Goals as goal

pub returns-then-branch : goal.returns-then-branch
returns-then-branch c = (in_at c.args.losers.now c.loop-place.place-index (record { number = 0; at = 0 }) (search rules), search rules)

pub loop-place-preserved : goal.loop-place-preserved
loop-place-preserved c =
    each_more (λ place. place.at ≡ last_of (pending_of (acts_of c.args.log.now) place.number)) c.args.losers.now c.loop-place.place-index
    (record { number = 0; at = 0 }) (search rules) c.loop-place.invariant (search rules)
