use Rattle.std.proofs.Common.{◌-◌, length}
use mathlib.Core.List.{IsPrefix}
use Rattle.durable_catalogue.specs.Asked.{IsFrom}
use Rattle.durable_catalogue.specs.News.{start_of}
use Rattle.loader_workers.proofs.following.follow_rest.Given as goal

abbrev pub invariant-rest : goal.invariant-rest
invariant-rest g l =
    IsFrom (start_of l.durable.news) (length (g.T.HeadingTaker.taken l.taker)) × IsPrefix (g.T.HeadingTaker.taken l.taker) l.durable.core.history × g.T.HeadingTaker.takes l.taker

abbrev pub decreases-rest : goal.decreases-rest
decreases-rest g l = length l.durable.core.history - length (g.T.HeadingTaker.taken l.taker)
