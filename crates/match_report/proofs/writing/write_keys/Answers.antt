use Rattle.std.proofs.Common.{◌∙◌, arith}
use Rattle.outside.proofs.Fronts.{writing_more, writing_failed}
use Rattle.match_report.proofs.Writes.{key_next}
use Rattle.match_report.proofs.writing.write_keys.Goals as goal

pub returns-in_err-write_key-clause-front : goal.returns-in_err-write_key-clause-front
returns-in_err-write_key-clause-front g c =
    writing_failed _ _ _ _ _ _ _ c.loop-key.invariant.writing
    (key_next c.args.keys.now c.loop-key.key-index c.key-item.result (omega arith) c.key-item.is)
    c.write_key.ensures.front

pub loop-key-preserved : goal.loop-key-preserved
loop-key-preserved g c = record {
  writing = writing_more _ _ _ _ _ _ _ c.loop-key.invariant.writing
      (key_next c.args.keys.now c.loop-key.key-index c.key-item.result (omega arith) c.key-item.is)
      c.in_ok-write_key.ensures.bytes;
  tells = c.in_ok-write_key.ensures.tells ∙ c.loop-key.invariant.tells;
  later = omega (arith, c.in_ok-write_key.ensures.cause.later);
}
