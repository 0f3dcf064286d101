use Rattle.std.proofs.Common.{◌∙◌, sym, ap, refl, Some}
use Rattle.postings.specs.Slot.{slot_row, exchanged}
use Rattle.postings.proofs.SlotLists.{found, not_found, changed_set, unchanged}
use Rattle.postings.proofs.slot_list.SlotList.exchange.Goals as goal

pub returns-in-Ok-clause-before : goal.returns-in-Ok-clause-before
returns-in-Ok-clause-before g c =
    let list = c.args.self.now in
    c.exchange.ensures.before
    ∙ sym (ap slot_row (found list.slots.items list.rising c.args.field c.in-Ok.place c.in-Ok.ensures.found c.index_mut.result.now c.index_mut.ensures.value))

pub returns-in-Ok-clause-now : goal.returns-in-Ok-clause-now
returns-in-Ok-clause-now g c =
    let list = c.args.self.now in
    changed_set list.slots.items list.rising c.args.field c.in-Ok.place c.in-Ok.ensures.found c.index_mut.result.now c.index_mut.ensures.value (exchanged c.args.row)
    c.exchange.new.self (ap (λ s. s.field) c.exchange.ensures.now) (ap Some (sym c.exchange.ensures.now))

pub returns-in-Err-clause-before : goal.returns-in-Err-clause-before
returns-in-Err-clause-before g c = sym (ap slot_row (not_found c.args.self.now.slots.items c.args.field c.in-Err.field-0 c.in-Err.ensures.absent))

pub returns-in-Err-clause-now : goal.returns-in-Err-clause-now
returns-in-Err-clause-now g c = unchanged c.args.self.now.slots.items c.args.field c.in-Err.field-0 c.in-Err.ensures.absent (exchanged c.args.row) refl
