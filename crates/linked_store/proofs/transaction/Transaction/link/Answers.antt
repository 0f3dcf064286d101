use Rattle.std.proofs.Common.{refl, ap}
use Rattle.wait_table.specs.Table.{waits}
use Rattle.linked_store.proofs.Noted.{forms_same, goes_linked, goes_none, goes_still, steps_noted}
use Rattle.linked_store.proofs.transaction.Transaction.link.Goals as goal

pub returns-in_err-reserve-clause-goes : goal.returns-in_err-reserve-clause-goes
returns-in_err-reserve-clause-goes c = goes_none c.args.self.now _ refl refl c.reserve.ensures.items

pub returns-in_err-add_link-clause-goes : goal.returns-in_err-add_link-clause-goes
returns-in_err-add_link-clause-goes c =
    goes_still c.args.self.now _ refl c.reserve.ensures.items c.in_err-add_link.ensures.err (ap waits c.add_link.ensures.only.waits)
    c.add_link.ensures.only.index (forms_same c.args.self.now.tables c.add_link.new.self c.add_link.ensures.only.forms)

pub returns-clause-goes : goal.returns-clause-goes
returns-clause-goes c =
    goes_linked c.args.self.now _ c.args.seat c.args.number
    (steps_noted c.args.self.now.log.items c.push_reserved.new.self.items c.reserve.new.self.items _ c.reserve.ensures.items c.push_reserved.ensures.items)
    refl c.add_link.ensures.only c.requires c.in_ok-add_link.ensures.ok.is
