use Rattle.std.proofs.Common.{IfSome, subst}
use Rattle.parts_commands.specs.Exports.{TellsKey}
use Rattle.parts_commands.proofs.OneKey.{any_follows, follows_any, follows_when}
use Rattle.parts_commands.proofs.keys.may_follow.Goals as goal

pub returns-in_default : goal.returns-in_default
returns-in_default c = any_follows c.args.one.now c.args.other.now (c.in_ok-one.ensures.none c.in_default.is)

pub returns-in_default-2 : goal.returns-in_default-2
returns-in_default-2 c = follows_any c.args.one.now c.args.other.now (c.in_ok-other.ensures.none c.in_default-2.is)

pub returns : goal.returns
returns c =
    follows_when c.args.one.now c.args.other.now c.in-Some.one c.in-Some-2.other c.lt.result
    (subst (λ told. IfSome told (TellsKey c.args.one.now)) c.in-Some.is c.in_ok-one.ensures.is)
    (subst (λ told. IfSome told (TellsKey c.args.other.now)) c.in-Some-2.is c.in_ok-other.ensures.is) c.lt.ensures
