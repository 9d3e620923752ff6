use Rattle.std.proofs.Common.{length}
use Rattle.rm_script.proofs.WordsRead.{HasPut}
use Rattle.rm_script.proofs.turns.push_words.Given as goal

abbrev pub invariant-loop-first : goal.invariant-loop-first
invariant-loop-first l = HasPut l.sessions l.text l.fn.words.items l.words.items l.rest

abbrev pub decreases-loop-first : goal.decreases-loop-first
decreases-loop-first l = length l.rest
