use Rattle.std.proofs.Common.{arith}
use Rattle.outside.proofs.Fronts.{writing_more, writing_failed}
use Rattle.catalogue_tables.specs.Sharing.{shown_keys}
use Rattle.heading_worklist.specs.Lines.{crossing_line}
use Rattle.heading_worklist.proofs.Pieces.{key_found_next}
use Rattle.heading_worklist.proofs.writing.Lister.write_others.Goals as goal

pub returns-in_err-write_found-clause-front : goal.returns-in_err-write_found-clause-front
returns-in_err-write_found-clause-front g c =
    writing_failed _ _ _ _ _ _ _ c.loop-key.invariant.writing
    (key_found_next (crossing_line c.args.self.now.engine.now.state (shown_keys c.args.own.now)) c.args.others.now c.loop-key.key-index c.key-item.result (omega arith) c.key-item.is)
    (rw c.in-Ok.ensures at c.write_found.ensures.front)

pub loop-key-preserved : goal.loop-key-preserved
loop-key-preserved g c = record {
  writing = writing_more _ _ _ _ _ _ _ c.loop-key.invariant.writing
      (key_found_next (crossing_line c.args.self.now.engine.now.state (shown_keys c.args.own.now)) c.args.others.now c.loop-key.key-index c.key-item.result (omega arith) c.key-item.is)
      (rw c.in-Ok.ensures at c.in_ok-write_found.ensures.bytes);
  later = omega (arith, c.in_ok-write_found.ensures.cause.later);
}
