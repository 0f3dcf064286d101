use Rattle.std.proofs.Common.{sym, subst}
use Rattle.loading_commands.specs.Inputs.{AreLoadable, AreInputs}
use Rattle.durable_catalogue.specs.Views.{durable_view}
use Rattle.loading_commands.specs.Outcomes.{HasBegun, IsWaiting, IsUnbegun, NotBegun, Fails}
use Rattle.loading_commands.proofs.Kept.{loading_keeps}
use Rattle.loading_commands.proofs.journal.begin.Goals as goal

pub open_all-requires-clause-loadable : goal.open_all-requires-clause-loadable
open_all-requires-clause-loadable g c κs within =
    subst (AreLoadable c.args.asked.journal.now) (sym c.as_slice-libraries.ensures) c.requires.proper.loadable

pub returns-in-Ok-clause-begun : goal.returns-in-Ok-clause-begun
returns-in-Ok-clause-begun g c =
    let opened = c.in-Ok.ensures in
    subst (λ room. HasBegun g.R.In.Source.left g.R.In.Source.faults (g.R.Room.seen room) c.args.asked (durable_view c.in-Ok.durable) c.in-Ok.inputs)
    (sym c.of-before.ensures) (record {
      proper = c.requires.proper;
      catalogue = opened.catalogue;
      inputs_are = subst (λ libraries. AreInputs g.R.In.Source.left (g.R.Room.seen c.args.room.now) libraries c.in-Ok.inputs) c.as_slice-libraries.ensures opened.inputs;
      fresh = opened.fresh;
    })

pub returns-in-Ok-clause-waiting : goal.returns-in-Ok-clause-waiting
returns-in-Ok-clause-waiting g c =
    subst (λ room. IsWaiting (g.R.Room.seen room) (g.R.Room.seen c.open_all.new.room) c.args.asked.journal.now) (sym c.of-before.ensures) (record {
      free = c.requires.free;
      is_open = c.in-Ok.ensures.opened;
      apart = c.open_all.ensures.apart;
      lefts = c.in-Ok.ensures.lefts;
    })

pub returns-clause-failed : goal.returns-clause-failed
returns-clause-failed g c =
    let old = g.R.Room.seen c.args.room.now in
    let new = g.R.Room.seen c.open_all.new.room in
    let journal = c.args.asked.journal.now in
    subst (λ libraries. Fails old new journal libraries c.in-Err.fault (IsUnbegun old new journal libraries c.in-Err.fault)) c.as_slice-libraries.ensures
    c.in-Err.ensures.failed

pub returns-clause-missing : goal.returns-clause-missing
returns-clause-missing g c tells missing =
    loading_keeps _ _ _ _ _ tells (NotBegun ((returns-clause-failed g c).because tells)) missing
