use Rattle.std.proofs.Common.{◌∙◌, sym}
use Rattle.marc_types.specs.Order.{form_ties_then, form_ties_else}
use Rattle.marc_types.proofs.form.FormPartialEq.eq.Goals as goal

pub returns-then-rank : goal.returns-then-rank
returns-then-rank c = form_ties_then _ _ _ (sym c.rank.ensures ∙ c.if-rank.true ∙ c.rank-2.ensures) c.eq.ensures

pub returns-else-rank : goal.returns-else-rank
returns-else-rank c =
    rw (c.rank.ensures, c.rank-2.ensures)
    (form_ties_else c.args.self.now c.args.other.now (λ e. c.if-rank.false (c.rank.ensures ∙ e ∙ sym c.rank-2.ensures)))
