use Rattle.loader_workers.proofs.Follows.{followed_once}
use Rattle.loader_workers.proofs.following.follow_once.Goals as goal

pub returns-clause-followed : goal.returns-clause-followed
returns-clause-followed g c =
    followed_once g.T.HeadingTaker.taken g.T.HeadingTaker.takes _ _ _ _ _ _ _ _ _ _ c.requires c.look-told.ensures.begins c.look-told.ensures.pass
    c.count.ensures c.look-told.ensures.answer c.take_told.ensures.told c.take_told.ensures.longer c.take_told.ensures.takes
