use Rattle.std.proofs.Common.{rules}
use Rattle.loader_workers.proofs.Follows.{from_later, fewer_left}
use Rattle.loader_workers.proofs.following.follow_rest.Goals as goal

pub rest-init : goal.rest-init
rest-init g c = (c.requires.news, c.requires.begins, c.requires.takes)

pub returns-in_err-take_next-clause-begins : goal.returns-in_err-take_next-clause-begins
returns-in_err-take_next-clause-begins g c = c.take_next.ensures.told.begins

pub returns-then-not-branch-clause-all : goal.returns-then-not-branch-clause-all
returns-then-not-branch-clause-all g c = c.in_ok-take_next.ensures.told.none_left (search rules)

pub returns-then-not-branch-clause-begins : goal.returns-then-not-branch-clause-begins
returns-then-not-branch-clause-begins g c = c.take_next.ensures.told.begins

pub rest-smaller : goal.rest-smaller
rest-smaller g c = fewer_left _ _ _ c.take_next.ensures.told.begins (c.in_ok-take_next.ensures.more (search rules))

pub rest-preserved : goal.rest-preserved
rest-preserved g c = (
  from_later _ _ _ c.rest.invariant.0 c.take_next.ensures.longer,
  c.take_next.ensures.told.begins,
  c.in_ok-take_next.ensures.takes,
)
