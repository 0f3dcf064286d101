use Rattle.loader_workers.proofs.Follows.{since_told}
use Rattle.loader_workers.proofs.following.take_next.Goals as goal

pub returns-clause-told : goal.returns-clause-told
returns-clause-told g c =
    c.take_told.ensures.told _ _ c.requires.news c.requires.begins (since_told _ _ _ _ _ _ c.count.ensures c.look-told.ensures)
