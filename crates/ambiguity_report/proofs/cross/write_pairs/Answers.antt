use Rattle.std.proofs.Common.{◌∙◌, arith}
use Rattle.outside.proofs.Fronts.{writing_more, writing_failed}
use Rattle.ambiguity_report.specs.Beside.{cross_text}
use Rattle.ambiguity_report.proofs.Scans.{key_next}
use Rattle.ambiguity_report.proofs.cross.write_pairs.Goals as goal

pub returns-in_err-write_pair-clause-front : goal.returns-in_err-write_pair-clause-front
returns-in_err-write_pair-clause-front g c =
    writing_failed _ _ _ _ _ _ _ c.loop-second.invariant.writing
    (key_next (cross_text c.args.first.now) c.args.others.now c.loop-second.second-index c.second-item.result (omega arith) c.second-item.is)
    c.write_pair.ensures.front

pub loop-second-preserved : goal.loop-second-preserved
loop-second-preserved g c = record {
  writing = writing_more _ _ _ _ _ _ _ c.loop-second.invariant.writing
      (key_next (cross_text c.args.first.now) c.args.others.now c.loop-second.second-index c.second-item.result (omega arith) c.second-item.is)
      c.in_ok-write_pair.ensures.bytes;
  tells = c.in_ok-write_pair.ensures.tells ∙ c.loop-second.invariant.tells;
  later = omega (arith, c.in_ok-write_pair.ensures.cause.later);
}
