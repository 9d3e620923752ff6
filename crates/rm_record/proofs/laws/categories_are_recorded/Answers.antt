use Rattle.std.proofs.Common.{◌≤◌, arith}
use Rattle.rm_types.specs.declared.formats.Format.{Format}
use Rattle.rm_types.specs.declared.formats.Format.TheVariants.{One}
use Rattle.rm_types.specs.Formats.{greatest_category}
use Rattle.rm_record.specs.declared.records.TheConstants.{MAX_RECORDED_CATEGORY}
use Rattle.rm_record.proofs.laws.categories_are_recorded.Goals as goal

each : (format : Format) → greatest_category format ≤ MAX_RECORDED_CATEGORY
each One = omega arith

pub returns : goal.returns
returns c = each
