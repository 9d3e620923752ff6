use Rattle.rm_desk.proofs.Slots.{least_next}
use Rattle.rm_desk.proofs.grants.Grants.slot_for.Goals as goal

pub loop-txn-preserved : goal.loop-txn-preserved
loop-txn-preserved c = record {
  vacant = c.least_vacant-slot-in-loop-txn.ensures.vacant;
  least = least_next _ _ _ _ c.loop-txn.invariant.least (λ free. free (c.is_held.ensures.held.0 c.loop-txn-test.true)) c.least_vacant-slot-in-loop-txn.ensures.least;
}
