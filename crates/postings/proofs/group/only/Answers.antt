use Rattle.std.proofs.Common.{rules}
use Rattle.postings.proofs.Among.{has_one}
use Rattle.postings.proofs.group.only.Goals as goal

pub returns : goal.returns
returns g c = has_one g.met.P.Eq.laws c.args.thing _ (search rules)
