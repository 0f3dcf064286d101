use Rattle.std.proofs.Common.{refl}
use Rattle.linked_store.proofs.Noted.{back_waiting}
use Rattle.linked_store.proofs.back.wait_back.Goals as goal

pub returns : goal.returns
returns c = back_waiting c.args.transaction.now _ c.args.seat c.args.before refl refl c.wait_again.ensures.only c.wait_again.ensures.now
