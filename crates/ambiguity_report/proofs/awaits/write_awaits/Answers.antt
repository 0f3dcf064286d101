use Rattle.std.proofs.Common.{ap, map, ◌∙◌, arith}
use Rattle.outside.proofs.Fronts.{writing_more, writing_failed}
use Rattle.catalogue_rules.specs.Output.{awaits_line}
use Rattle.numbered_store.specs.Kept.{shown_row}
use Rattle.ambiguity_report.specs.Beside.{rows_lines}
use Rattle.ambiguity_report.proofs.awaits.write_awaits.Goals as goal

pub returns-in_err-write_awaiting-clause-front : goal.returns-in_err-write_awaiting-clause-front
returns-in_err-write_awaiting-clause-front g c =
    writing_failed _ _ _ _ _ _ _ c.loop-key.invariant.writing
    (ap (λ rows. rows_lines awaits_line c.args.class (map shown_row rows)) c.in-Some.ensures.steps) c.write_awaiting.ensures.front

pub loop-key-preserved : goal.loop-key-preserved
loop-key-preserved g c = record {
  writing = writing_more _ _ _ _ _ _ _ c.loop-key.invariant.writing
      (ap (λ rows. rows_lines awaits_line c.args.class (map shown_row rows)) c.in-Some.ensures.steps) c.in_ok-write_awaiting.ensures.bytes;
  tells = c.in_ok-write_awaiting.ensures.tells ∙ c.loop-key.invariant.tells;
  later = omega (arith, c.in_ok-write_awaiting.ensures.cause.later);
}
