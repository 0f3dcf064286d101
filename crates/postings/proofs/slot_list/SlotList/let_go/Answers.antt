use Rattle.std.proofs.Common.{◌<◌, refl, subst}
use Rattle.postings.specs.Slot.{let_go}
use Rattle.postings.proofs.SlotLists.{changed_set, changed_remove, unchanged, let_go_more, let_go_last, one_there}
use Rattle.postings.proofs.slot_list.SlotList.let_go.Goals as goal

pub returns-in_default : goal.returns-in_default
returns-in_default g c = unchanged c.args.self.now.slots.items c.args.field c.in_default.field-0 c.in_default.ensures.absent let_go refl

pub returns-then-index-gt1 : goal.returns-then-index-gt1
returns-then-index-gt1 g c =
    let list = c.args.self.now in
    let x = c.index_mut.result.now in
    let more = one_there list.slots.items c.args.field c.in-Ok.place c.in-Ok.ensures.found c.index.result.now x c.index.ensures c.index_mut.ensures.value in
    changed_set list.slots.items list.rising c.args.field c.in-Ok.place c.in-Ok.ensures.found x c.index_mut.ensures.value let_go _ refl (let_go_more x (subst (λ s. 1 < s.rooms) more c.if-index-gt1.true))

pub returns-else-index-gt1 : goal.returns-else-index-gt1
returns-else-index-gt1 g c =
    let list = c.args.self.now in
    let x = c.index.result.now in
    rw c.remove.ensures.items
    (changed_remove list.slots.items list.rising c.args.field c.in-Ok.place c.in-Ok.ensures.found x c.index.ensures let_go (let_go_last x c.if-index-gt1.false))
