use Rattle.linking_laws.proofs.Listed.{carry_idle}
use Rattle.linking_laws.proofs.places.carrying_the_same_heading_changes_nothing.Goals as goal

pub returns : goal.returns
returns c = carry_idle
