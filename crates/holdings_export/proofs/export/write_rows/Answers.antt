use Rattle.std.proofs.Common.{ap, map, sym, ◌∙◌, arith}
use Rattle.outside.proofs.Fronts.{writing_begun, writing_more, writing_failed}
use Rattle.holdings_export.specs.Output.{lent_shelf}
use Rattle.holdings_export.proofs.Written.{next_with_holdings, next_without}
use Rattle.holdings_export.proofs.export.write_rows.Goals as goal
use Rattle.numbered_store.specs.Kept.{shown_row}

pub loop-key-init : goal.loop-key-init
loop-key-init g c = record {
  writing = λ kept selects. rw (ap (map shown_row) c.into_iter-key-iterator.ensures.into_iter_gives.0) (writing_begun _ _);
  later = omega arith;
}

pub loop-key-preserved-in-Continue-1 : goal.loop-key-preserved-in-Continue-1
loop-key-preserved-in-Continue-1 g c = record {
  writing = λ kept selects.
      writing_more _ _ _ _ _ _ _ (c.loop-key.invariant.writing kept selects)
      (next_with_holdings (lent_shelf c.args.groups) _ _ _ _ (ap (map shown_row) c.in-Some.ensures.steps) kept (sym (c.keeps.ensures kept selects) ∙ c.if-keeps.true))
      c.in_ok-write_record.ensures.bytes;
  later = omega arith;
}

pub returns-in_err-write_record-clause-front : goal.returns-in_err-write_record-clause-front
returns-in_err-write_record-clause-front g c = λ kept selects.
    writing_failed _ _ _ _ _ _ _ (c.loop-key.invariant.writing kept selects)
    (next_with_holdings (lent_shelf c.args.groups) _ _ _ _ (ap (map shown_row) c.in-Some.ensures.steps) kept (sym (c.keeps.ensures kept selects) ∙ c.if-keeps.true))
    c.write_record.ensures.front

pub loop-key-preserved : goal.loop-key-preserved
loop-key-preserved g c = record {
  writing = λ kept selects.
      rw (← (next_without (lent_shelf c.args.groups) _ _ _ _ (ap (map shown_row) c.in-Some.ensures.steps) kept (sym (c.keeps.ensures kept selects) ∙ c.if-keeps.false)))
      (c.loop-key.invariant.writing kept selects);
  later = omega arith;
}
