use Rattle.std.proofs.Common.{arith}
use Rattle.std.proofs.KnownBytes.{Appends-kept, Appends-nil}
use Rattle.outside_real.proofs.Writes.{all_taken, front_taken, more_taken, within_taken}
use Rattle.outside_real.proofs.writing.write_whole.Goals as goal
use Rattle.outside_real.proofs.writing.write_whole.Goals.{in-Ok, in-Err+else-ne}

pub writes-init : goal.writes-init
writes-init g c = record { within = omega arith; wrote = Appends-nil _ }

pub returns-then-sent-bytes-clause-bytes : goal.returns-then-sent-bytes-clause-bytes
returns-then-sent-bytes-clause-bytes g c = all_taken _ _ _ _ (omega (arith, c.if-sent-bytes.true)) c.writes.invariant.wrote

pub returns-then-sent-bytes-clause-front : goal.returns-then-sent-bytes-clause-front
returns-then-sent-bytes-clause-front g c = front_taken _ _ _ _ c.writes.invariant.wrote

pub returns-in-Ok-eq0-clause-front : goal.returns-in-Ok-eq0-clause-front
returns-in-Ok-eq0-clause-front g c =
    front_taken _ _ _ _ (more_taken _ _ _ _ _ _ c.writes.invariant.wrote c.in-Ok-eq0.ensures.bytes)

pub returns-then-ne-clause-front : goal.returns-then-ne-clause-front
returns-then-ne-clause-front g c = front_taken _ _ _ _ (Appends-kept _ _ _ _ c.writes.invariant.wrote c.in-Err.ensures.bytes)

pub writes-preserved : goal.writes-preserved
writes-preserved g c =
    let within = c.writes.invariant.within in
    let wrote = c.writes.invariant.wrote in
    elim c.match-write.branch [
      | in-Ok w ↦ rw w.sent-is (record {
        within = within_taken _ _ _ within w.in-Ok.ensures.bound;
        wrote = more_taken _ _ _ _ _ _ wrote w.in-Ok.ensures.bytes;
      })
      | in-Err+else-ne w ↦ rw w.sent-is (record { within = within; wrote = Appends-kept _ _ _ _ wrote w.in-Err.ensures.bytes })
    ]

pub returns-clause-front : goal.returns-clause-front
returns-clause-front g c = front_taken _ _ _ _ c.writes.invariant.wrote
