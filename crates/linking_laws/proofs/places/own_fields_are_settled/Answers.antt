use Rattle.linking_laws.proofs.Owning.{own_settled}
use Rattle.linking_laws.proofs.places.own_fields_are_settled.Goals as goal

pub returns : goal.returns
returns c = own_settled
