use Rattle.heading_worklist.proofs.Counting.{one_link}
use Rattle.heading_worklist.proofs.links.count_link.Goals as goal

pub returns : goal.returns
returns c k =
    one_link c.args.counts.now c.insert.new.self c.args.key.now c.linked_times-so_far.result c.linked_times-so_far.ensures c.in_ok-insert.ensures.updates k
