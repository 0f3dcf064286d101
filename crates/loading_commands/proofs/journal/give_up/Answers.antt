use Rattle.std.proofs.Common.{refl}
use Rattle.durable_catalogue.specs.Views.{durable_view}
use Rattle.loading_commands.proofs.journal.give_up.Goals as goal

pub returns-clause-read : goal.returns-clause-read
returns-clause-read g c = record {
  d = durable_view c.args.loading.durable;
  inputs = c.args.loading.inputs;
  reads = record {
    begun = c.requires.begun;
    origin = refl;
    loaded = tt;
    unbegun = refl;
    unmarked = c.requires.begun.catalogue.unmarked;
    unread = refl;
  };
}
