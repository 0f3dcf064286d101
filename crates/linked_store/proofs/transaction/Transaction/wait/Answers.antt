use Rattle.std.proofs.Common.{refl, ap, ◌∙◌, Some}
use Rattle.link_table.specs.Table.{links}
use Rattle.numbering.specs.declared.seat.Seat.{Seat}
use Rattle.wait_table.specs.Waits.{with_waiting}
use Rattle.linked_store.specs.Transactions.{waits_in}
use Rattle.linked_store.proofs.Noted.{goes_none, goes_still, goes_waiting, steps_noted, waits_from}
use Rattle.linked_store.proofs.transaction.Transaction.wait.Goals as goal

pub returns-in_err-reserve-clause-goes : goal.returns-in_err-reserve-clause-goes
returns-in_err-reserve-clause-goes c = goes_none c.args.self.now _ refl refl c.reserve.ensures.items

pub returns-in_err-add_waiting-clause-goes : goal.returns-in_err-add_waiting-clause-goes
returns-in_err-add_waiting-clause-goes c =
    goes_still c.args.self.now _ refl c.reserve.ensures.items (ap links c.add_waiting.ensures.only.links) c.in_err-add_waiting.ensures.err
    c.add_waiting.ensures.only.index (record { forms = c.add_waiting.ensures.only.forms })

pub returns-clause-now : goal.returns-clause-now
returns-clause-now c = waits_from c.args.self.now _ c.args.seat _ _ refl c.add_waiting.ensures.only c.in_ok-add_waiting.ensures.ok

pub returns-clause-goes : goal.returns-clause-goes
returns-clause-goes c =
    goes_waiting c.args.self.now _ c.args.seat c.in_ok-add_waiting.ensures.ok.row.waiting
    (steps_noted c.args.self.now.log.items c.push_reserved.new.self.items c.reserve.new.self.items _ c.reserve.ensures.items c.push_reserved.ensures.items)
    refl c.add_waiting.ensures.only c.requires
    (c.in_ok-add_waiting.ensures.ok.is ∙ ap (λ (s : Seat). with_waiting s (Some c.in_ok-add_waiting.ensures.ok.row.waiting) (waits_in c.args.self.now.tables)) c.in_ok-add_waiting.ensures.ok.seat_is)
