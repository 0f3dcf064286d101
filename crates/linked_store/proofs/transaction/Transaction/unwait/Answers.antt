use Rattle.std.proofs.Common.{◌∙◌, ap, refl}
use Rattle.std.specs.Prelude.{not}
use Rattle.linked_store.proofs.Noted.{goes_none, goes_unwaited, goes_unwaited_before, steps_noted}
use Rattle.linked_store.proofs.transaction.Transaction.unwait.Goals as goal

pub returns-in_err-reserve-clause-goes : goal.returns-in_err-reserve-clause-goes
returns-in_err-reserve-clause-goes c = goes_none c.args.self.now _ refl refl c.reserve.ensures.items

pub returns-then-is_none-clause-goes : goal.returns-then-is_none-clause-goes
returns-then-is_none-clause-goes c =
    goes_unwaited_before c.args.self.now _ c.args.seat c.take_waiting-before.result refl c.reserve.ensures.items c.take_waiting-before.ensures.only c.take_waiting-before.ensures.before
    c.take_waiting-before.ensures.now (c.is_none.ensures ∙ ap not c.if-is_none.true)

pub returns-clause-goes : goal.returns-clause-goes
returns-clause-goes c =
    goes_unwaited c.args.self.now _ c.args.seat c.take_waiting-before.result
    (steps_noted c.args.self.now.log.items c.push_reserved.new.self.items c.reserve.new.self.items _ c.reserve.ensures.items c.push_reserved.ensures.items)
    refl c.take_waiting-before.ensures.only c.take_waiting-before.ensures.before c.take_waiting-before.ensures.now
