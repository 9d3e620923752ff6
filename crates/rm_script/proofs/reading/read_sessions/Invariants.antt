use Rattle.std.proofs.Common.{◌<◌, ◌≤◌, length}
use Rattle.rm_script.specs.Grammar.{lines_in}
use Rattle.rm_script.specs.Lines.{lines_of}
use Rattle.rm_script.specs.Reading.{AreSessions, HasRead, IsSomeLine, StopsAt}
use Rattle.rm_script.proofs.reading.read_sessions.Given as goal

abbrev pub invariant-loop-after : goal.invariant-loop-after
invariant-loop-after l = record {
  read : HasRead (AreSessions (length l.sessions.items) (lines_in l.sessions.items)) l.bytes l.rest;
  no_line : 0 < length l.sessions.items → StopsAt IsSomeLine (lines_of l.rest);
  shorter : length l.rest ≤ length l.bytes;
}

abbrev pub decreases-loop-after : goal.decreases-loop-after
decreases-loop-after l = length l.rest
