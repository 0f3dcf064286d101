use Rattle.std.proofs.Common.{refl}
use Rattle.linked_store.proofs.Noted.{back_linked}
use Rattle.linked_store.proofs.back.link_back.Goals as goal

pub returns : goal.returns
returns c = back_linked c.args.transaction.now _ c.args.seat c.args.before refl refl c.relink.ensures.only c.relink.ensures.now
