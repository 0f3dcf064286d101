use Rattle.std.proofs.lemmas.Result.{on_ok_weaker}
use Rattle.catalogue_rules.specs.State.{kept_field}
use Rattle.linked_store.specs.Transactions.{contents}
use Rattle.linked_store.proofs.Noted.{goes_then}
use Rattle.linked_store.proofs.Turned.{no_link_at, no_row_at, turned_rows}
use Rattle.linked_store.proofs.transaction.Transaction.relink_field.Goals as goal

pub put_rows-requires-clause-unlinked : goal.put_rows-requires-clause-unlinked
put_rows-requires-clause-unlinked c = no_link_at c.args.seat (contents c.args.self.now) (contents c.take_rows.new.self) c.in_ok-take_rows.ensures.now

pub put_rows-requires-clause-unwaiting : goal.put_rows-requires-clause-unwaiting
put_rows-requires-clause-unwaiting c = no_row_at c.args.seat (contents c.args.self.now) (contents c.take_rows.new.self) c.in_ok-take_rows.ensures.now

pub returns-in_err-put_rows-clause-goes : goal.returns-in_err-put_rows-clause-goes
returns-in_err-put_rows-clause-goes c = goes_then c.args.self.now c.take_rows.new.self c.put_rows.new.self c.take_rows.ensures.goes c.put_rows.ensures.goes

pub returns-clause-now : goal.returns-clause-now
returns-clause-now c =
    on_ok_weaker c.swap.result
    (turned_rows c.args.self.now c.take_rows.new.self c.put_rows.new.self c.swap.new.self c.args.seat (kept_field c.args.field c.args.tie) c.args.link c.args.row
    c.in_ok-take_rows.ensures.now c.in_ok-put_rows.ensures.now c.swap.ensures.tables)
    c.swap.ensures.now

pub returns-clause-goes : goal.returns-clause-goes
returns-clause-goes c =
    goes_then c.args.self.now c.put_rows.new.self c.swap.new.self
    (goes_then c.args.self.now c.take_rows.new.self c.put_rows.new.self c.take_rows.ensures.goes c.put_rows.ensures.goes) c.swap.ensures.goes
