use Rattle.linking_laws.proofs.Listed.{drop_whole}
use Rattle.linking_laws.proofs.places.dropping_is_whole.Goals as goal

pub returns : goal.returns
returns c = λ d key successor s m places. drop_whole d key successor s places m
