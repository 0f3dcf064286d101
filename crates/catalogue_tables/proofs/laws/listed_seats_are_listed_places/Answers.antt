use Rattle.catalogue_tables.proofs.Seams.{places_listed}
use Rattle.catalogue_tables.proofs.laws.listed_seats_are_listed_places.Goals as goal

pub returns : goal.returns
returns c = λ keys test seats distinct keyed lists. places_listed keys distinct test seats keyed lists
