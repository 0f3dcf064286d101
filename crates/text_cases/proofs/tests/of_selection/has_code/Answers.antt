use Rattle.std.proofs.Common.{bytes_eq, rules}
use Rattle.text_cases.proofs.tests.of_selection.has_code.Goals as goal

pub returns : goal.returns
returns c =
    let code = c.args.code.now in
    c.keeps.ensures (λ key. bytes_eq key.code code)
    (c.new.ensures.selects (λ key. bytes_eq key.code code) (record { only = λ key answer said. search rules }))
