use Rattle.std.proofs.Common.{◌≡◌, ℕ, List, subst}
use Rattle.std.specs.Prelude.{OnOk}
use Rattle.ambiguity_report.proofs.Counting.{line_is}
use Rattle.ambiguity_report.proofs.totals.make_line.Goals as goal

pub returns : goal.returns
returns c =
    subst (λ (l : List ℕ). OnOk c.totals_line.result (c.totals_line.new.text.items ≡ l))
    (line_is c.args.engine.now.state c.count-authorities.result c.count-bibliographic.result c.args.totals c.count-authorities.ensures.count c.count-bibliographic.ensures.count c.requires)
    c.totals_line.ensures
