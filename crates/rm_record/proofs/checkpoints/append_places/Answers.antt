use Rattle.std.proofs.Common.{arith, drop, length-drop}
use Rattle.rm_record.proofs.PlaceLaws.{length-entries}
use Rattle.rm_record.proofs.checkpoints.append_places.Goals as goal

pub append_place-requires : goal.append_place-requires
append_place-requires c =
    let left = drop c.loop-place.place-index c.as_slice-entries.result.now in
    omega (arith, c.loop-place.invariant.room, length-entries left, length-drop c.loop-place.place-index c.as_slice-entries.result.now, c.loop-place-test.true)
