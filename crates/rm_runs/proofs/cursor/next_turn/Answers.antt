use Rattle.std.proofs.Common.{arith}
use Rattle.rm_runs.proofs.Cursors.{session_taken, rounds_over, no_rounds, round_begun}
use Rattle.rm_runs.proofs.cursor.next_turn.Goals as goal
use Rattle.rm_runs.proofs.cursor.next_turn.Goals.{then-rounds-eq0-via-then-rounds-eq0, then-rounds-eq0-via-else-rounds-eq0+then-sessions-eq0}

pub returns-then-had-sessions : goal.returns-then-had-sessions
returns-then-had-sessions c = rw c.in-Finish.is (session_taken c.args.sessions c.args.had c.in-Finish.rounds c.if-had-sessions.true)

pub returns-then-rounds-eq0 : goal.returns-then-rounds-eq0
returns-then-rounds-eq0 c =
    rw c.in-Finish.is (elim c.then-rounds-eq0.branch [
      | then-rounds-eq0-via-then-rounds-eq0 w ↦ rounds_over c.args.sessions c.args.had c.in-Finish.rounds c.if-had-sessions.false (omega arith)
      | then-rounds-eq0-via-else-rounds-eq0+then-sessions-eq0 w ↦ no_rounds c.args.sessions c.args.had c.in-Finish.rounds (omega arith)
    ])

pub returns-else-sessions-eq0 : goal.returns-else-sessions-eq0
returns-else-sessions-eq0 c =
    rw c.in-Finish.is (round_begun c.args.sessions c.args.had c.in-Finish.rounds c.if-had-sessions.false (omega arith) (omega arith))
