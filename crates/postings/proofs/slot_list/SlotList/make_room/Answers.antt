use Rattle.std.proofs.Common.{sym, ap, Some}
use Rattle.postings.specs.Slot.{roomier}
use Rattle.postings.proofs.Errors.{on_err}
use Rattle.postings.proofs.SlotLists.{changed_set, changed_insert, same_set, rising_after}
use Rattle.postings.proofs.slot_list.SlotList.make_room.Goals as goal

pub returns-in_err-make_room-in-Ok-clause-err : goal.returns-in_err-make_room-in-Ok-clause-err
returns-in_err-make_room-in-Ok-clause-err g c =
    let list = c.args.self.now in
    on_err c.from_residual.result
    (same_set list.slots.items list.rising c.args.field c.in-Ok.place c.in-Ok.ensures.found c.index_mut.result.now c.index_mut.ensures.value c.make_room.new.self
    c.in_err-make_room-in-Ok.ensures.err)

pub invariant_of-self-in-Err : goal.invariant_of-self-in-Err
invariant_of-self-in-Err g c =
    let list = c.args.self.now in
    record {
      rising =
          rising_after list.slots.items c.args.field c.in-Err.place c.in-Err.ensures.absent c.insert.result c.new.result (ap (λ s. s.field) c.new.ensures) list.rising
          c.insert.ensures.items;
    }

pub returns-in_ok-make_room-in-Ok-clause-ok : goal.returns-in_ok-make_room-in-Ok-clause-ok
returns-in_ok-make_room-in-Ok-clause-ok g c =
    let list = c.args.self.now in
    changed_set list.slots.items list.rising c.args.field c.in-Ok.place c.in-Ok.ensures.found c.index_mut.result.now c.index_mut.ensures.value (roomier c.args.field)
    c.make_room.new.self (ap (λ s. s.field) c.in_ok-make_room-in-Ok.ensures.ok) (ap Some (sym c.in_ok-make_room-in-Ok.ensures.ok))

pub returns-in_ok-insert-in-Err-clause-ok : goal.returns-in_ok-insert-in-Err-clause-ok
returns-in_ok-insert-in-Err-clause-ok g c =
    let list = c.args.self.now in
    rw c.in_ok-insert-in-Err.ensures.items
    (changed_insert list.slots.items c.args.field c.in-Err.place c.in-Err.ensures.absent (roomier c.args.field) c.new.result (ap (λ s. s.field) c.new.ensures)
    (ap Some (sym c.new.ensures)))
