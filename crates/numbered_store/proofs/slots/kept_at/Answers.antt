use Rattle.numbered_store.proofs.Shelving.{row_lent}
use Rattle.numbered_store.proofs.slots.kept_at.Goals as goal

pub returns : goal.returns
returns c = row_lent c.args.keys.now c.args.slots.now.items c.requires c.args.number c.slot.result c.slot.ensures
