use Rattle.std.proofs.Common.{◌≡◌, ◌-◌, ◌≤◌, length}
use Rattle.rm_types.specs.Rising.{next_number}
use Rattle.rm_record.specs.Fields.{places_field, entries_field}
use Rattle.rm_record.proofs.PlaceLaws.{with_more}
use Rattle.rm_record.proofs.checkpoints.places_of.Given as goal

abbrev pub invariant-loop-place : goal.invariant-loop-place
invariant-loop-place l = record {
  reads : places_field l.low l.high l.bytes ≡ with_more l.places (entries_field (l.count - l._place) l.least l.high l.rest);
  above : next_number 0 l.places ≤ l.least;
  count_is : length l.places ≡ l._place;
}
