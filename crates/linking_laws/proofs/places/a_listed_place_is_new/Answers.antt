use Rattle.linking_laws.proofs.Listed.{next_is_new}
use Rattle.linking_laws.proofs.places.a_listed_place_is_new.Goals as goal

pub returns : goal.returns
returns c = next_is_new
