use Rattle.std.proofs.Common.{rules, ◌≡◌, ◌≤◌, ◌+◌, length, take, get_or, vec_len, arith}
use Rattle.std.specs.List.{flat_map}
use Rattle.entry_history.specs.Format.{entry_bytes}
use Rattle.entry_history.proofs.Batches.{cut_laid, cut_within}
use Rattle.entry_history.proofs.batch.Batch.cut.Goals as goal

pub index_mut-requires : goal.index_mut-requires
index_mut-requires c =
    let items = c.self.inside.items.items in
    let within : c.args.n ≤ length items = rw (← c.self.view_is) at c.requires.within in
    let some : 1 ≤ length items = omega (arith, c.requires.some, within) in
    let place = c.count_place-place.result in
    let at : place ≡ 13 + length (get_or items 0 c.index.result.now).library = search rules in
    let count : vec_len c.truncate-2.new.self ≡ length (take (place + 1 + c.parts_len-len.result) c.self.inside.payload.items) = search rules in
    rw count (cut_within items c.self.inside.payload.items c.index.result.now place c.parts_len-len.result c.self.invariant some at)

pub invariant_of-self : goal.invariant_of-self
invariant_of-self c =
    let items = c.self.inside.items.items in
    let within : c.args.n ≤ length items = rw (← c.self.view_is) at c.requires.within in
    let place = c.count_place-place.result in
    let len = c.parts_len-len.result in
    let at : place ≡ 13 + length (get_or items 0 c.index.result.now).library = search rules in
    let count : len ≡ length (flat_map entry_bytes (take c.args.n items)) = rw (← c.deref.ensures.value) c.parts_len-len.ensures.value in
    rw (c.truncate.ensures.items, c.truncate-2.ensures.items)
    (cut_laid items c.self.inside.payload.items c.index.result.now c.args.n place len c.self.invariant c.requires.some within at count)
