use Rattle.std.proofs.Common.{◌≡◌, ◌+◌, ◌≤◌, ◌^◌, ◌-◌}
use Rattle.std.specs.Prelude.{Ok}
use Rattle.loader_workers.specs.Following.{HasFollowed}
use Rattle.loader_workers.proofs.following.follow_while.Given as goal

abbrev pub invariant-looks : goal.invariant-looks
invariant-looks g l =
    HasFollowed g.T.HeadingTaker.taken g.T.HeadingTaker.takes {A = Unit {0}} l.initial.follower.pass l.follower.pass l.initial.follower.taker l.follower.taker (Ok tt)
    × (l.follower.pass.turns ≡ l.initial.follower.pass.turns + l.looks) × (l.looks ≤ 2 ^ 30)

abbrev pub decreases-looks : goal.decreases-looks
decreases-looks g l = 2 ^ 30 - l.looks
