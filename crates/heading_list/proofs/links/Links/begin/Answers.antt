use Rattle.heading_list.proofs.Counts.{begins}
use Rattle.heading_list.proofs.links.Links.begin.Goals as goal

pub returns : goal.returns
returns c other = begins c.args.self.now.counts c.insert.new.self c.args.key other c.in_ok-insert.ensures.updates
