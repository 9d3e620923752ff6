-- The parts of a printed line.
use Rattle.std.specs.Prelude.{ℕ, List, decimal}
use Rattle.std.specs.List.{flat_map}
use Rattle.rm_script.specs.declared.parts.Part.{Part}
use Rattle.rm_script.specs.declared.parts.Part.TheVariants as part
use Rattle.rm_script.specs.Targets.{place}
use Rattle.rm_script.specs.Texts.{shown}

-- a part as text
abbrev pub part_text : Part → List ℕ
part_text (part.Word word) = word.now
part_text (part.Number number) = decimal number
part_text (part.Place rid) = place rid
part_text (part.Row row) = shown row.now

-- parts one after another
abbrev pub parts_text : List Part → List ℕ
parts_text parts = flat_map part_text parts
