use Rattle.linking_laws.proofs.Listed.{choose_whole}
use Rattle.linking_laws.proofs.places.choosing_is_whole.Goals as goal

pub returns : goal.returns
returns c = choose_whole
