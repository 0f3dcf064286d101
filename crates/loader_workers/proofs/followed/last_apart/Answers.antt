use Rattle.loader_workers.proofs.Follows.{last_of}
use Rattle.loader_workers.proofs.followed.last_apart.Goals as goal

pub returns : goal.returns
returns g c brought count are = last_of c.args.lock.now brought count _ _ _ _ _ c.into_vec-passes.ensures c.in-Some.ensures.items c.from_vec.ensures are
