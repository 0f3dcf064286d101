use Rattle.linking_laws.proofs.Walked.{sum_within}
use Rattle.linking_laws.proofs.numbers.places_named_once_are_within_the_sum.Goals as goal

pub returns : goal.returns
returns c = sum_within
