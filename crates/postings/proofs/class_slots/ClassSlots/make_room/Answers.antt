use Rattle.postings.specs.Slot.{roomier}
use Rattle.postings.proofs.Errors.{on_err}
use Rattle.postings.proofs.Written.{changed_under, changed_after, same_under, same_after}
use Rattle.postings.proofs.class_slots.ClassSlots.make_room.Goals as goal

pub returns-clause-ok : goal.returns-clause-ok
returns-clause-ok g c =
    let old = c.reach.new.self in
    changed_after c.args.self.now.records old _ c.reach.ensures.same c.args.number c.args.field (roomier c.args.field)
    (changed_under old c.args.number c.row_mut.result.now c.make_room.new.self c.row_mut.ensures.value c.args.field (roomier c.args.field) c.in_ok-make_room.ensures.ok)

pub returns-in_err-make_room-clause-err : goal.returns-in_err-make_room-clause-err
returns-in_err-make_room-clause-err g c =
    let old = c.reach.new.self in
    on_err c.from_residual-in_err-make_room.result
    (same_after c.args.self.now.records old _ c.reach.ensures.same
    (same_under old c.args.number c.row_mut.result.now c.make_room.new.self c.row_mut.ensures.value c.in_err-make_room.ensures.err))
