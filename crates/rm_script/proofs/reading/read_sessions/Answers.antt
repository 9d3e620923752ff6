use Rattle.std.proofs.Common.{◌≡◌, length, arith}
use Rattle.rm_script.proofs.SessionsRead.{sessions_more}
use Rattle.rm_script.proofs.reading.read_sessions.Goals as goal

pub loop-after-preserved : goal.loop-after-preserved
loop-after-preserved c =
    let count : length c.loop-after.sessions.items ≡ c.len.result = omega (arith, c.len.ensures) in
    record {
      read = sessions_more c.loop-after.sessions.items c.push.new.self.items c.in_ok-lines.lines c.args.bytes.now c.loop-after.rest.now c.in-Some.after.now c.in_ok-lines.left.now c.in_ok-push.ensures.items (omega (arith, count, c.in-Some.ensures.few)) c.loop-after.invariant.read (rw count c.in-Some.ensures.some) c.in_ok-lines.ensures.read;
      no_line = λ some. c.in_ok-lines.ensures.stops;
      shorter = omega (arith, c.in-Some.ensures.shorter, c.in_ok-lines.ensures.shorter, c.loop-after.invariant.shorter);
    }

pub returns-clause-stops : goal.returns-clause-stops
returns-clause-stops c =
    let count : length c.loop-after.sessions.items ≡ c.len.result = omega (arith, c.len.ensures) in
    record {
      no_line = c.loop-after.invariant.no_line;
      no_session = rw count c.in_default.ensures.none;
    }
