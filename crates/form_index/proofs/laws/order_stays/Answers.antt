use Rattle.form_index.proofs.Growing.{order_kept}
use Rattle.form_index.proofs.laws.order_stays.Goals as goal

pub returns : goal.returns
returns g c = order_kept g.before c.args.keys.now c.requires.0 c.requires.1.0 c.args.index.now c.requires.1.1
