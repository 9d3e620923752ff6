use Rattle.std.proofs.Common.{◌≤◌, length}
use Rattle.std.specs.List.{AllZip}
use Rattle.rm_script.specs.Operations.{IsLine}
use Rattle.rm_script.specs.Reading.{HasRead}
use Rattle.rm_script.proofs.reading.read_lines.Given as goal

abbrev pub invariant-loop-text : goal.invariant-loop-text
invariant-loop-text l = record { read : HasRead (AllZip IsLine l.lines.items) l.bytes l.rest; shorter : length l.rest ≤ length l.bytes }

abbrev pub decreases-loop-text : goal.decreases-loop-text
decreases-loop-text l = length l.rest
