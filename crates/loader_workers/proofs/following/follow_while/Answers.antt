use Rattle.std.proofs.Common.{rules, arith}
use Rattle.loader_workers.proofs.Follows.{followed_none, followed_more, followed_so, can_again}
use Rattle.loader_workers.proofs.following.follow_while.Goals as goal

pub looks-init : goal.looks-init
looks-init g c = (followed_none g.T.HeadingTaker.taken g.T.HeadingTaker.takes _ _ _ _ _ c.requires, search rules, search rules)

pub follow_once-requires : goal.follow_once-requires
follow_once-requires g c =
    can_again g.T.HeadingTaker.taken g.T.HeadingTaker.takes _ _ _ _ _ _ _ _ _ c.requires c.looks.invariant.0 c.looks.invariant.0.able
    (omega (arith, c.looks.invariant.1, c.looks.invariant.2, c.requires.room))

pub returns-in_err-follow_once : goal.returns-in_err-follow_once
returns-in_err-follow_once g c =
    followed_so _ _ _ _ _ _ _ _ (followed_more _ _ _ _ _ _ _ _ _ _ c.looks.invariant.0 c.follow_once.ensures.followed) (search rules)

pub looks-preserved-then-count-before : goal.looks-preserved-then-count-before
looks-preserved-then-count-before g c = (
  followed_so _ _ _ _ _ _ _ _ (followed_more _ _ _ _ _ _ _ _ _ _ c.looks.invariant.0 c.follow_once.ensures.followed) c.in_ok-follow_once.ensures.followed.able,
  search rules,
  search rules,
)

pub looks-preserved : goal.looks-preserved
looks-preserved g c = (
  followed_so _ _ _ _ _ _ _ _ (followed_more _ _ _ _ _ _ _ _ _ _ c.looks.invariant.0 c.follow_once.ensures.followed) c.in_ok-follow_once.ensures.followed.able,
  search rules,
  search rules,
)

pub returns-else-not-is_over : goal.returns-else-not-is_over
returns-else-not-is_over g c = c.looks.invariant.0

pub returns-after-looks : goal.returns-after-looks
returns-after-looks g c = c.looks.invariant.0
