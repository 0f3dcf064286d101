use Rattle.std.proofs.Common.{◌≤◌, arith, sym, subst}
use Rattle.marc_types.specs.declared.entry.Limits.{Limits}
use Rattle.marc_types.specs.Limits.{most_entries}
use Rattle.marc_types.proofs.WithinLimits.{limits_within}
use Rattle.durable_catalogue.specs.Views.{durable_view}
use Rattle.loading_commands.proofs.LoadedFiles.{inputs_count}
use Rattle.loading_commands.proofs.journal.load_followed.Goals as goal

pub load_files_followed-durable-requires-clause-some : goal.load_files_followed-durable-requires-clause-some
load_files_followed-durable-requires-clause-some g c κs within =
    let begun = c.requires.begun in
    let count = inputs_count g.R.In.Source.left g.R.In.Source.faults _ c.args.loading.asked.libraries c.args.loading.inputs begun.inputs_are in
    let some = begun.proper.loadable.some in
    omega (arith, count, some)

pub load_files_followed-durable-requires-clause-few : goal.load_files_followed-durable-requires-clause-few
load_files_followed-durable-requires-clause-few g c κs within =
    let begun = c.requires.begun in
    let count = inputs_count g.R.In.Source.left g.R.In.Source.faults _ c.args.loading.asked.libraries c.args.loading.inputs begun.inputs_are in
    let few = begun.proper.loadable.few in
    omega (arith, count, few)

pub load_files_followed-durable-requires-clause-proper : goal.load_files_followed-durable-requires-clause-proper
load_files_followed-durable-requires-clause-proper g c κs within k d less = (c.requires.begun.fresh k d less).proper

pub load_files_followed-durable-requires-clause-whole : goal.load_files_followed-durable-requires-clause-whole
load_files_followed-durable-requires-clause-whole g c κs within = c.requires.begun.catalogue.unmarked

pub load_files_followed-durable-requires-clause-run : goal.load_files_followed-durable-requires-clause-run
load_files_followed-durable-requires-clause-run g c κs within = c.requires.begun.catalogue.run

pub load_files_followed-durable-requires-clause-limits : goal.load_files_followed-durable-requires-clause-limits
load_files_followed-durable-requires-clause-limits g c κs within =
    subst (λ (limits : Limits). limits.entries ≤ most_entries) (sym c.requires.begun.catalogue.limits)
    (limits_within (g.R.Room.seen c.args.loading.before.value).is_large).0

pub returns-clause-reads : goal.returns-clause-reads
returns-clause-reads g c =
    let did = c.load_files_followed-durable.ensures in record {
      begun = c.requires.begun;
      origin = did.origin;
      loaded = did.loaded;
      unbegun = did.unbegun;
      unmarked = did.unmarked;
      unread = did.files;
    }

pub returns-clause-read : goal.returns-clause-read
returns-clause-read g c =
    record { d = durable_view c.args.loading.durable; inputs = c.args.loading.inputs; reads = returns-clause-reads g c }
