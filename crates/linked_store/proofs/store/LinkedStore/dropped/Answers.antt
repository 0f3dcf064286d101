use Rattle.std.proofs.Common.{Option}
use Rattle.std.proofs.lemmas.Result.{IfOk-weaker}
use Rattle.marc_types.specs.declared.key.Class.TheVariants.{Authority}
use Rattle.marc_types.specs.declared.key.Key.{Key}
use Rattle.linking_laws.specs.Tables.{dropped_at, holds_at}
use Rattle.linked_store.specs.Linked.{ListsSeats, key_of}
use Rattle.linked_store.proofs.Listing.{copied_none, copied_some, lists_dropped}
use Rattle.linked_store.proofs.store.LinkedStore.dropped.Goals as goal

pub returns-in-Some : goal.returns-in-Some
returns-in-Some c =
    IfOk-weaker c.linked_or_waiting.result _ _
    (λ seats lists.
    copied_some
    (λ (o : Option Key). ListsSeats c.args.self.now.keys (holds_at (dropped_at (key_of Authority c.args.number c.args.self.now.keys) o) c.args.self.now.state) seats.items)
    c.args.successor _ c.in-Some.is lists)
    c.linked_or_waiting.ensures

pub returns-in-None : goal.returns-in-None
returns-in-None c =
    IfOk-weaker c.linked.result _ _
    (λ seats lists.
    copied_none
    (λ (o : Option Key). ListsSeats c.args.self.now.keys (holds_at (dropped_at (key_of Authority c.args.number c.args.self.now.keys) o) c.args.self.now.state) seats.items)
    c.args.successor c.in-None.is
    (lists_dropped c.args.self.now.keys (key_of Authority c.args.number c.args.self.now.keys) c.args.self.now.state seats.items lists))
    c.linked.ensures
