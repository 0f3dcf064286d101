use Rattle.std.proofs.Common.{◌+◌}
use Rattle.heading_list.proofs.Counts.{one_more, uncounted}
use Rattle.heading_list.proofs.links.Links.add.Goals as goal

pub returns-else-count : goal.returns-else-count
returns-else-count c other =
    let count = c.in-Some.count.now in
    one_more c.args.self.now.counts (c.get_mut.follows.lender (count + 1)) c.args.key.now other count c.in-Some.ensures.value (c.get_mut.follows.holds (count + 1))

pub returns-in-None : goal.returns-in-None
returns-in-None c other =
    uncounted c.args.self.now.counts c.get_mut.follows.lender-at-none c.args.key.now other c.get_mut.follows.holds-at-none c.in-None.ensures.value
