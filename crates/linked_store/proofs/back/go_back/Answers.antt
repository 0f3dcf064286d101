use Rattle.std.proofs.Common.{refl}
use Rattle.linked_store.specs.Contents.{step_of}
use Rattle.linked_store.specs.Transactions.{steps_of}
use Rattle.linked_store.specs.declared.transaction.Transaction.{Transaction}
use Rattle.linked_store.proofs.Noted.{one_less, popped_fits, popped_rooms, row_out, under_way}
use Rattle.linked_store.proofs.back.go_back.Goals as goal

pub loop-change-init : goal.loop-change-init
loop-change-init c = under_way c.args.position c.args.transaction.now c.requires.can c.requires.rooms

pub undo-requires-clause-fits : goal.undo-requires-clause-fits
undo-requires-clause-fits c =
    let popped : Transaction = record { store = c.loop-change.transaction.store; tables = c.loop-change.transaction.tables; log = c.pop_above.new.log } in
    popped_fits c.args.position c.args.transaction.now c.loop-change.transaction popped c.in-Some.change c.loop-change.invariant c.in-Some.ensures.some refl refl

pub undo-requires-clause-out : goal.undo-requires-clause-out
undo-requires-clause-out c =
    let popped : Transaction = record { store = c.loop-change.transaction.store; tables = c.loop-change.transaction.tables; log = c.pop_above.new.log } in
    row_out (steps_of popped) (step_of c.in-Some.change) popped.tables
    (popped_rooms c.args.position c.args.transaction.now c.loop-change.transaction popped c.in-Some.change c.loop-change.invariant c.in-Some.ensures.some refl refl)

pub loop-change-preserved : goal.loop-change-preserved
loop-change-preserved c =
    let popped : Transaction = record { store = c.loop-change.transaction.store; tables = c.loop-change.transaction.tables; log = c.pop_above.new.log } in
    one_less c.args.position c.args.transaction.now c.loop-change.transaction popped c.in-Some.change c.loop-change.invariant c.in-Some.ensures.some refl refl
    c.undo.new.transaction c.in-Some.ensures.above c.undo.ensures
