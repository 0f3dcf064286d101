use Rattle.form_index.proofs.Onces.{each_once_once, each_once_same}
use Rattle.form_index.proofs.row.each_once.Goals as goal

pub returns-clause-once : goal.returns-clause-once
returns-clause-once c =
    each_once_once c.args.numbers.items c.sort_unstable.new.self.items c.dedup.new.self.items c.sort_unstable.ensures.permutation c.dedup.ensures.filtered c.sort_unstable.ensures.sorted

pub returns-clause-same : goal.returns-clause-same
returns-clause-same c =
    each_once_same c.args.numbers.items c.sort_unstable.new.self.items c.dedup.new.self.items c.sort_unstable.ensures.permutation c.dedup.ensures.filtered
