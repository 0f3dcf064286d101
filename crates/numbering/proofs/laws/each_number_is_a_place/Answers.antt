use Rattle.numbering.proofs.Numberlaws.{thing_at}
use Rattle.numbering.proofs.laws.each_number_is_a_place.Goals as goal

pub returns : goal.returns
returns g c = thing_at g.T.PartialEq.eq c.args.numbering.now c.args.thing.now c.requires
