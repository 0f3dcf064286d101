use Rattle.numbering.proofs.Numberlaws.{number_at}
use Rattle.numbering.proofs.laws.each_place_is_a_number.Goals as goal

pub returns : goal.returns
returns g c =
    number_at _ g.met.T.Eq.laws c.args.numbering.now c.args.thing.now c.args.number c.requires.distinct c.requires.placed
