use Rattle.std.proofs.Common.{◌∙◌, refl, sym}
use Rattle.std.proofs.lemmas.Result.{on_ok_weaker}
use Rattle.linked_store.specs.Transactions.{contents}
use Rattle.linked_store.proofs.Noted.{goes_none}
use Rattle.linked_store.proofs.Holding.{without_any, without_link, without_wait}
use Rattle.linked_store.proofs.transaction.Transaction.take_rows.Goals as goal

pub returns-in-Link-clause-now : goal.returns-in-Link-clause-now
returns-in-Link-clause-now c =
    on_ok_weaker c.unlink.result (without_link c.args.seat (contents c.args.self.now) (contents c.unlink.new.self) c.requires (sym c.in-Link.is ∙ c.row_held.ensures)) c.unlink.ensures.now

pub returns-in-Waiting-clause-now : goal.returns-in-Waiting-clause-now
returns-in-Waiting-clause-now c =
    on_ok_weaker c.unwait.result (without_wait c.args.seat (contents c.args.self.now) (contents c.unwait.new.self) c.requires (sym c.in-Waiting.is ∙ c.row_held.ensures)) c.unwait.ensures.now

pub returns-in-Nothing-clause-now : goal.returns-in-Nothing-clause-now
returns-in-Nothing-clause-now c =
    without_any c.args.seat (contents c.args.self.now) (contents c.args.self.now) c.requires (sym c.in-Nothing.is ∙ c.row_held.ensures) refl

pub returns-in-Nothing-clause-goes : goal.returns-in-Nothing-clause-goes
returns-in-Nothing-clause-goes c = goes_none c.args.self.now c.args.self.now refl refl refl
