use Rattle.linking_laws.proofs.Listed.{carry_whole}
use Rattle.linking_laws.proofs.places.carrying_is_whole.Goals as goal

pub returns : goal.returns
returns c = carry_whole
