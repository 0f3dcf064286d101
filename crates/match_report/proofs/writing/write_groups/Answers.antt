use Rattle.std.proofs.Common.{◌∙◌, arith}
use Rattle.outside.proofs.Fronts.{writing_more, writing_failed, piece_next}
use Rattle.match_report.specs.Groups.{group_line}
use Rattle.match_report.proofs.writing.write_groups.Goals as goal

pub returns-in_err-write_group-clause-front : goal.returns-in_err-write_group-clause-front
returns-in_err-write_group-clause-front g c =
    writing_failed _ _ _ _ _ _ _ c.loop-group.invariant.writing
    (piece_next group_line c.args.groups.now c.loop-group.group-index c.group-item.result (omega arith) c.group-item.is)
    c.write_group.ensures.front

pub loop-group-preserved : goal.loop-group-preserved
loop-group-preserved g c = record {
  writing = writing_more _ _ _ _ _ _ _ c.loop-group.invariant.writing
      (piece_next group_line c.args.groups.now c.loop-group.group-index c.group-item.result (omega arith) c.group-item.is)
      c.in_ok-write_group.ensures.bytes;
  tells = c.in_ok-write_group.ensures.tells ∙ c.loop-group.invariant.tells;
  later = omega (arith, c.in_ok-write_group.ensures.cause.later);
}
