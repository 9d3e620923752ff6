use Rattle.std.proofs.Common.{length}
use Rattle.rm_plain.specs.Reading.{HasRead}
use Rattle.rm_plain.proofs.reading.read_lines.Given as goal

abbrev pub invariant-loop-text : goal.invariant-loop-text
invariant-loop-text l = HasRead l.bytes l.lines.items l.rest

abbrev pub decreases-loop-text : goal.decreases-loop-text
decreases-loop-text l = length l.rest
