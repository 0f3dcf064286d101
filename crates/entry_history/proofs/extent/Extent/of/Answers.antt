use Rattle.std.proofs.Common.{[], refl}
use Rattle.entry_history.proofs.extent.Extent.of.Goals as goal

pub returns : goal.returns
returns c = record { count_is = refl; last_is = c.last_run.ensures [] refl }
