use Rattle.std.proofs.Common.{refl}
use Rattle.linked_store.specs.Contents.{step_of}
use Rattle.linked_store.specs.Transactions.{steps_of}
use Rattle.linked_store.specs.declared.transaction.Transaction.{Transaction}
use Rattle.linked_store.proofs.Noted.{keeping, last_rooms, one_gone, row_out}
use Rattle.linked_store.proofs.back.keep_all.Goals as goal

pub loop-change-init : goal.loop-change-init
loop-change-init c = keeping c.args.transaction.now c.requires.rooms

pub forget-requires-clause-out : goal.forget-requires-clause-out
forget-requires-clause-out c =
    let popped : Transaction = record { store = c.loop-change.transaction.store; tables = c.loop-change.transaction.tables; log = c.pop.new.self } in
    row_out (steps_of popped) (step_of c.in-Some.change) popped.tables
    (last_rooms c.args.transaction.now c.loop-change.transaction popped c.in-Some.change c.loop-change.invariant c.in-Some.ensures.items refl)

pub forget-requires-clause-order : goal.forget-requires-clause-order
forget-requires-clause-order c = record {
  keys = c.requires.order.keys;
  ordered = c.loop-change.invariant.now.index.ordered c.requires.order.keys c.requires.order.ordered;
}

pub loop-change-preserved : goal.loop-change-preserved
loop-change-preserved c =
    let popped : Transaction = record { store = c.loop-change.transaction.store; tables = c.loop-change.transaction.tables; log = c.pop.new.self } in
    one_gone c.args.transaction.now c.loop-change.transaction popped c.in-Some.change c.loop-change.invariant c.in-Some.ensures.items refl _ refl refl c.forget.ensures
