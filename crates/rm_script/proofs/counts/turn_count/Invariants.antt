use Rattle.std.proofs.Common.{◌≡◌, ◌≤◌, take}
use Rattle.rm_script.specs.declared.limits.TheConstants.{MAX_TURNS}
use Rattle.rm_script.specs.Turns.{turns_of}
use Rattle.rm_script.proofs.counts.turn_count.Given as goal

abbrev pub invariant-loop-word : goal.invariant-loop-word
invariant-loop-word l = record { count : l.turns ≡ turns_of l.sessions (take l.word-index l.word-items); few : l.turns ≤ MAX_TURNS }
