use Rattle.std.proofs.Common.{rules}
use Rattle.std.proofs.lemmas.List.Sorted.{answers_always}
use Rattle.postings.proofs.SlotLists.{searched}
use Rattle.postings.proofs.slot_list.SlotList.search.Goals as goal

pub returns : goal.returns
returns g c =
    let facts = c.binary_search_by_key.ensures in
    let by_key = facts.position (λ slot. slot.field) (answers_always _ _ _ (λ f a r g called. search rules)) in
    rw (← c.deref.ensures.value) (searched _ (rw c.deref.ensures.value c.args.self.now.rising) c.args.field _ facts.bound by_key)
