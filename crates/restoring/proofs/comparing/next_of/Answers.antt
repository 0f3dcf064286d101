use Rattle.std.proofs.Common.{◌≡◌, ◌∙◌, ap, sym}
use Rattle.kept_rows.specs.Rows.{rows_in}
use Rattle.restoring.proofs.Alike.{own_first, other_first, none_first}
use Rattle.restoring.proofs.comparing.next_of.Goals as goal

pub returns-then-is_of : goal.returns-then-is_of
returns-then-is_of c =
    sym c.loop-row.invariant ∙ ap (rows_in c.args.class) c.in-Some.ensures.cases.0
    ∙ own_first c.args.class c.in-Some.row.now c.in-Some.behind.now (sym c.is_of.ensures ∙ c.if-is_of.true)

pub loop-row-preserved : goal.loop-row-preserved
loop-row-preserved c =
    sym (other_first c.args.class c.in-Some.row.now c.in-Some.behind.now (sym c.is_of.ensures ∙ c.if-is_of.false))
    ∙ sym (ap (rows_in c.args.class) c.in-Some.ensures.cases.0) ∙ c.loop-row.invariant

pub returns : goal.returns
returns c = sym c.loop-row.invariant ∙ none_first c.args.class c.loop-row.rest.now c.in_default.ensures.cases
