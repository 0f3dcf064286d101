use Rattle.std.proofs.Common.{◌≤◌, length, subst}
use Rattle.entry_record.specs.History.{entries_size}
use Rattle.catalogue_core.specs.Catalogues.{all_entries}
use Rattle.durable_catalogue.proofs.Within.{within_limits}
use Rattle.durable_catalogue.proofs.durable.Durable.is_within_limits.Goals as goal

pub returns : goal.returns
returns g c =
    let d = c.args.self.now in
    let is = c.core.ensures.value in
    within_limits d.core d.unstaged (subst (λ core. length (all_entries core) ≤ core.limits.entries) is c.is_within_limits.ensures.count)
    (subst (λ core. entries_size (all_entries core) ≤ core.limits.bytes) is c.is_within_limits.ensures.size)
