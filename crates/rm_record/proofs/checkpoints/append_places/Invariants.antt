use Rattle.std.proofs.Common.{◌≡◌, ◌+◌, ◌≤◌, ◌++◌, length, vec_len, take, drop}
use Rattle.std.specs.List.{flat_map}
use Rattle.std.specs.Vec.{vec_capacity}
use Rattle.rm_record.specs.Places.{place_bytes}
use Rattle.rm_record.proofs.checkpoints.append_places.Given as goal

abbrev pub invariant-loop-place : goal.invariant-loop-place
invariant-loop-place l = record {
  items : l.out.items ≡ l.initial.out.items ++ flat_map place_bytes (take l.place-index l.entries);
  room : vec_len l.out + length (flat_map place_bytes (drop l.place-index l.entries)) ≤ vec_capacity l.out;
  capacity : vec_capacity l.initial.out ≤ vec_capacity l.out;
}
