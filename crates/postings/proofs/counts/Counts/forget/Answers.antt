use Rattle.postings.proofs.Written.{less_under}
use Rattle.postings.proofs.counts.Counts.forget.Goals as goal

pub returns-in-Some : goal.returns-in-Some
returns-in-Some g c =
    less_under g.P.PartialEq.eq c.args.self.now.groups c.args.name c.in-Some.group.now c.forget.new.self c.in-Some.ensures.value c.args.thing c.forget.ensures
