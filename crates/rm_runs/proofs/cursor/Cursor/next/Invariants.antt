use Rattle.std.proofs.Common.{◌≡◌, ◌++◌, length}
use Rattle.rm_play.specs.Words.{actors_of}
use Rattle.rm_runs.specs.Cursors.{left_of}
use Rattle.rm_runs.proofs.cursor.Cursor.next.Given as goal

abbrev pub invariant-loop-actor : goal.invariant-loop-actor
invariant-loop-actor l =
    left_of l.self-inside.sessions l.self-inside.word l.self-inside.had ++ actors_of l.self-inside.sessions l.self-inside.words.now
    ≡ left_of l.initial.self-inside.sessions l.initial.self-inside.word l.initial.self-inside.had ++ actors_of l.initial.self-inside.sessions l.initial.self-inside.words.now

abbrev pub decreases-loop-actor : goal.decreases-loop-actor
decreases-loop-actor l = length l.self-inside.words.now
