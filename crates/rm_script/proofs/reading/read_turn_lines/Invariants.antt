use Rattle.std.proofs.Common.{◌≤◌, length}
use Rattle.rm_script.specs.Grammar.{AreTurnLines}
use Rattle.rm_script.specs.Reading.{HasRead}
use Rattle.rm_script.proofs.reading.read_turn_lines.Given as goal

abbrev pub invariant-loop-text : goal.invariant-loop-text
invariant-loop-text l = record { read : HasRead (AreTurnLines l.sessions l.words.items) l.bytes l.rest; shorter : length l.rest ≤ length l.bytes }

abbrev pub decreases-loop-text : goal.decreases-loop-text
decreases-loop-text l = length l.rest
