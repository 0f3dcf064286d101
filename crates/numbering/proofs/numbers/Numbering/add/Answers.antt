use Rattle.std.proofs.Common.{rules}
use Rattle.numbering.proofs.Numberlaws.{keeps_itself, keeps_same, number_after, keeps_after}
use Rattle.numbering.proofs.numbers.Numbering.add.Goals as goal

pub returns-in-Some-clause-keeps : goal.returns-in-Some-clause-keeps
returns-in-Some-clause-keeps g c = keeps_itself _ _

pub returns-then-number-clause-keeps : goal.returns-then-number-clause-keeps
returns-then-number-clause-keeps g c = keeps_itself _ _

pub returns-in_err-copy-clause-keeps : goal.returns-in_err-copy-clause-keeps
returns-in_err-copy-clause-keeps g c = keeps_itself _ _

pub returns-in_err-push-clause-keeps : goal.returns-in_err-push-clause-keeps
returns-in_err-push-clause-keeps g c = keeps_same _ c.in_err-push.ensures.err

pub returns-clause-number : goal.returns-clause-number
returns-clause-number g c =
    number_after _ g.met.T.Eq.laws c.args.self.now _ c.args.thing.now c.len-number.result (search rules) (search rules) (search rules)

pub returns-clause-keeps : goal.returns-clause-keeps
returns-clause-keeps g c = keeps_after _ c.args.self.now _ c.args.thing.now (search rules)
