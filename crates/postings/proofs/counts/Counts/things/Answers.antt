use Rattle.std.proofs.Common.{arith}
use Rattle.std.proofs.lemmas.Grind.{common_steps}
use Rattle.postings.specs.Counts.{times}
use Rattle.postings.proofs.Among.{has_nothing}
use Rattle.postings.proofs.counts.Counts.things.Goals as goal

pub returns-in-None : goal.returns-in-None
returns-in-None g c =
    has_nothing g.P.PartialEq.eq (times g.P.PartialEq.eq c.args.self.now.groups c.args.name) c.new.result.items c.new.ensures.items
    (λ p. grind (arith, common_steps))
