use Rattle.std.proofs.Common.{◌∙◌, ap, None}
use Rattle.wait_table.specs.Waits.{Waits}
use Rattle.linked_store.specs.Transactions.{waits_in}
use Rattle.linked_store.proofs.Outside.{gone_at}
use Rattle.linked_store.proofs.rows.wait_again.Goals as goal

pub return_waiting-requires-clause-free : goal.return_waiting-requires-clause-free
return_waiting-requires-clause-free c = ap (λ (w : Waits). w.waiting c.args.seat) c.drop_waiting.ensures.now ∙ gone_at c.args.seat None (waits_in c.args.tables.now).waiting
