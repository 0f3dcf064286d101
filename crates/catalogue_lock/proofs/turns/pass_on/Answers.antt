use Rattle.std.proofs.Common.{rules}
use Rattle.catalogue_lock.proofs.Turning.{passes_on}
use Rattle.catalogue_lock.proofs.turns.pass_on.Goals as goal

pub fetch_add-served-requires : goal.fetch_add-served-requires
fetch_add-served-requires g c = (search rules, search rules, passes_on _ _ _ _ _ _ c.requires.turn)
