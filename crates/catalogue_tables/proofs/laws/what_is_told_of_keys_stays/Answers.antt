use Rattle.marc_types.specs.Order.{same_key}
use Rattle.catalogue_tables.proofs.Seams.{told_stays}
use Rattle.catalogue_tables.proofs.laws.what_is_told_of_keys_stays.Goals as goal

pub returns : goal.returns
returns c = λ old new keys many test within keeps keep key place. told_stays same_key old new keys many test within keeps keep key place
