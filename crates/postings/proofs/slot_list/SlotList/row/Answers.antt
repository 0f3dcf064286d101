use Rattle.std.proofs.Common.{◌∙◌, sym, ap}
use Rattle.postings.specs.Slot.{slot_row}
use Rattle.postings.proofs.SlotLists.{found, not_found}
use Rattle.postings.proofs.slot_list.SlotList.row.Goals as goal

pub returns-in-Ok : goal.returns-in-Ok
returns-in-Ok g c =
    let list = c.args.self.now in
    c.as_ref.ensures.value ∙ sym (ap slot_row (found list.slots.items list.rising c.args.field c.in-Ok.place c.in-Ok.ensures.found c.index.result.now c.index.ensures))

pub returns-in-Err : goal.returns-in-Err
returns-in-Err g c = sym (ap slot_row (not_found c.args.self.now.slots.items c.args.field c.in-Err.field-0 c.in-Err.ensures.absent))
