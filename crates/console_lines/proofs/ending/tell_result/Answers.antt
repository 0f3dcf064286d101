use Rattle.std.proofs.Common.{refl}
use Rattle.console_lines.specs.Ends.{ResultTold, ResultUntold}
use Rattle.console_lines.proofs.ending.tell_result.Goals as goal

pub returns-in-Ok : goal.returns-in-Ok
returns-in-Ok g c = ResultTold c.of.ensures (rw (← c.as_bytes.ensures.value) c.in-Ok.ensures.bytes)

pub returns-in-Err : goal.returns-in-Err
returns-in-Err g c = ResultUntold refl c.in-Err.ensures.cause.failed (rw (← c.as_bytes.ensures.value) c.write_all.ensures.front)
