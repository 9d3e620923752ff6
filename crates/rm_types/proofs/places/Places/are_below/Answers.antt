use Rattle.rm_types.proofs.RisingLaws.{may_be_next}
use Rattle.rm_types.proofs.places.Places.are_below.Goals as goal

pub returns-in-Some : goal.returns-in-Some
returns-in-Some c =
    let at = c.in-Some.ensures.item in
    let found = rw c.deref.ensures.value at at.1 in
    rw (← c.self.view_is) (may_be_next c.self.inside.entries.items c.in-Some.last.now c.args.number (rw c.deref.ensures.value at at.3.0) found)
