use Rattle.std.proofs.Common.{◌≡◌}
use Rattle.catalogue_core.specs.Catalogues.{all_entries}
use Rattle.durable_catalogue.proofs.Fits.{IsFitting}
use Rattle.durable_catalogue.proofs.fitting.fitting_count.Given as goal

abbrev pub invariant-loop-item : goal.invariant-loop-item
invariant-loop-item l = (l.count ≡ l.item-index) × IsFitting l.core.limits (all_entries l.core) l.items l.item-index l.entries l.bytes
