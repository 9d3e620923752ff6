use Rattle.std.proofs.Common.{arith, ap, length}
use Rattle.rm_types.specs.declared.places.Place.{Place}
use Rattle.rm_record.proofs.PlaceLaws.{length-entries}
use Rattle.rm_record.proofs.records.places_size.Goals as goal

pub returns-clause-value : goal.returns-clause-value
returns-clause-value c = omega (arith, length-entries c.args.places.now, ap (length {A = Place}) c.as_slice.ensures.value)
