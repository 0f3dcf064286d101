use Rattle.std.proofs.Common.{rules, ◌≡◌, ◌≢◌, ◌++◌, ◌∷◌, [], length, vec_len}
use Rattle.std.specs.List.{All}
use Rattle.entry_history.specs.Batches.{IsLike}
use Rattle.entry_history.specs.Format.{entry_bytes}
use Rattle.entry_history.proofs.Batches.{place_within, pushed_laid}
use Rattle.entry_history.proofs.batch.Batch.go_on.Goals as goal

pub index_mut-requires : goal.index_mut-requires
index_mut-requires c =
    let items = c.self.inside.items.items in
    let some : items ≢ [] = rw (← c.self.view_is) at c.requires.some in
    let like : All (λ x. IsLike x c.args.item) items = rw (← c.self.view_is) at c.requires.like in
    let added = c.in-Ok.ensures.ok in
    let count : vec_len c.append_entry.new.out ≡ length (c.self.inside.payload.items ++ entry_bytes c.args.item) = search rules in
    rw count (place_within items c.self.inside.payload.items c.args.item c.count_place-place.result c.self.invariant some like c.count_place-place.ensures.value)

pub invariant_of-self-2 : goal.invariant_of-self-2
invariant_of-self-2 c =
    let items = c.self.inside.items.items in
    let some : items ≢ [] = rw (← c.self.view_is) at c.requires.some in
    let like : All (λ x. IsLike x c.args.item) items = rw (← c.self.view_is) at c.requires.like in
    let room = rw (← c.self.view_is) at c.requires.room in
    let pushed = c.in_default-push.ensures.items in
    let count : c.len.result ≡ length (items ++ c.args.item ∷ []) = search rules in
    rw (pushed, c.in-Ok.ensures.ok)
    (pushed_laid items c.self.inside.payload.items c.args.item c.count_place-place.result c.len.result c.self.invariant some room
    c.count_place-place.ensures.admitted like c.count_place-place.ensures.value count)
