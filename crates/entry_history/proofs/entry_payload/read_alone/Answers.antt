use Rattle.std.proofs.Common.{ap, subst, length}
use Rattle.entry_history.specs.Alone.{copies}
use Rattle.entry_history.specs.Reading.{HoldsNoneNow}
use Rattle.entry_history.proofs.Alone.{read_alone_is, none_refused, only_one}
use Rattle.entry_history.proofs.entry_payload.read_alone.Goals as goal

pub only-requires : goal.only-requires
only-requires c =
    let e = c.requires.entry in
    ap length
    (read_alone_is e c.in-Ok.items.items c.args.payload.now c.requires.is
    (c.in-Ok.ensures.holds (copies e.run e) (c.extent_before.ensures e c.requires.is)))

pub unreachable-requires : goal.unreachable-requires
unreachable-requires c =
    let e = c.requires.entry in
    none_refused e c.args.payload.now c.requires.is
    (subst (HoldsNoneNow (copies e.run e) c.args.payload.now) c.in-Err-BadEntry.field-0-is
    (c.in-Err-BadEntry.ensures.bad (copies e.run e) (c.extent_before.ensures e c.requires.is)))

pub returns-in-Ok : goal.returns-in-Ok
returns-in-Ok c =
    let e = c.requires.entry in
    only_one c.only.result e c.in-Ok.items.items c.args.payload.now c.only.ensures
    (read_alone_is e c.in-Ok.items.items c.args.payload.now c.requires.is
    (c.in-Ok.ensures.holds (copies e.run e) (c.extent_before.ensures e c.requires.is)))
    c.requires.is
