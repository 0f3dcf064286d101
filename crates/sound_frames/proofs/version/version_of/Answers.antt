use Rattle.std.proofs.Common.{refl, subst}
use Rattle.sound_frames.specs.Sound.{Newer, Older}
use Rattle.sound_frames.specs.Looking.{BeginsAs}
use Rattle.sound_frames.proofs.version.version_of.Goals as goal

pub returns-then-branch-clause-read : goal.returns-then-branch-clause-read
returns-then-branch-clause-read c =
    let first = subst (BeginsAs 2 c.args.log.now) c.if-branch.true c.in_ok-begins_as.ensures in
    Newer first.0 first.1 refl

pub returns-then-branch-2-clause-read : goal.returns-then-branch-2-clause-read
returns-then-branch-2-clause-read c =
    let none = subst (BeginsAs 2 c.args.log.now) c.if-branch.false c.in_ok-begins_as.ensures in
    let first = subst (BeginsAs 1 c.args.log.now) c.if-branch-2.true c.in_ok-begins_as-2.ensures in
    Older first.0 none first.1 refl
