use Rattle.rm_types.proofs.RisingLaws.{next_number-snoc, places-snoc}
use Rattle.rm_types.proofs.places.Places.push.Goals as goal

pub invariant_of-self-2 : goal.invariant_of-self-2
invariant_of-self-2 c = rw c.in_ok-push.ensures.items (places-snoc c.self.inside.entries.items c.args.place c.self.invariant (rw c.self.view_is c.requires))

pub returns-clause-next : goal.returns-clause-next
returns-clause-next c = rw c.in_ok-push.ensures.items (next_number-snoc 0 c.self.inside.entries.items c.args.place)
