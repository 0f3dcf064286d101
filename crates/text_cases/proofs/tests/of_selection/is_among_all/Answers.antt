use Rattle.std.proofs.Common.{true, rules}
use Rattle.text_cases.proofs.tests.of_selection.is_among_all.Goals as goal

pub returns : goal.returns
returns c =
    c.keeps.ensures (λ key. true) (c.new.ensures.selects (λ key. true) (record { only = λ key answer said. search rules }))
