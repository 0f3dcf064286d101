use Rattle.std.proofs.Common.{arith}
use Rattle.std.specs.Option.{option_copied}
use Rattle.outside.proofs.Fronts.{writing_more, writing_failed}
use Rattle.heading_worklist.specs.Counting.{kept_in}
use Rattle.heading_worklist.specs.Worklist.{kept_line}
use Rattle.heading_worklist.proofs.Pieces.{found_next}
use Rattle.heading_worklist.proofs.writing.Lister.write_counted.Goals as goal

pub returns-in_err-write_found-clause-front : goal.returns-in_err-write_found-clause-front
returns-in_err-write_found-clause-front g c =
    writing_failed _ _ _ _ _ _ _ c.loop-counted.invariant.writing
    (found_next (kept_line (kept_in (option_copied c.args.self.now.code)) c.args.self.now.engine.now.state) c.loop-counted.counted-iterator c.next.new.self c.in-Some.counted.now c.in-Some.ensures.steps)
    (rw c.in-Ok.ensures at c.write_found.ensures.front)

pub loop-counted-preserved : goal.loop-counted-preserved
loop-counted-preserved g c = record {
  writing = writing_more _ _ _ _ _ _ _ c.loop-counted.invariant.writing
      (found_next (kept_line (kept_in (option_copied c.args.self.now.code)) c.args.self.now.engine.now.state) c.loop-counted.counted-iterator c.next.new.self c.in-Some.counted.now c.in-Some.ensures.steps)
      (rw c.in-Ok.ensures at c.in_ok-write_found.ensures.bytes);
  later = omega (arith, c.in_ok-write_found.ensures.cause.later);
}
