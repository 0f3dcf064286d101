use Rattle.numbering.proofs.Numberlaws.{alike}
use Rattle.numbering.proofs.laws.numbers_tell_things_apart.Goals as goal

pub returns : goal.returns
returns g c = alike _ g.met.T.Eq.laws c.args.numbering.now c.args.thing.now c.args.other.now c.requires
