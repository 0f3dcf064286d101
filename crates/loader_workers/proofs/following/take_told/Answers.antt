use Rattle.std.proofs.Common.{rules}
use Rattle.loader_workers.proofs.Follows.{takes_told}
use Rattle.loader_workers.proofs.following.take_told.Goals as goal

pub returns-in-Since-clause-told : goal.returns-in-Since-clause-told
returns-in-Since-clause-told g c start history early begins answered =
    takes_told start history _ _ c.in-Since.headings c.args.told c.in_ok-headings.field-0 c.is_empty-some.result begins (search rules) c.in-Since.is answered
    c.in_ok-take-in-Since.ensures.taken (search rules)
