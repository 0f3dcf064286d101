use Rattle.std.proofs.Common.{subst, sym}
use Rattle.std.proofs.lemmas.Result.{IfOk-weaker}
use Rattle.marc_types.specs.declared.key.Class.TheVariants.{Authority}
use Rattle.linking_laws.specs.Tables.{holds_at, linked_at}
use Rattle.linked_store.specs.Transactions.{contents}
use Rattle.linked_store.specs.Linked.{IsNumber, Linked, ListsSeats, key_of}
use Rattle.linked_store.proofs.Listing.{lists_linked}
use Rattle.linked_store.proofs.store.LinkedStore.linked.Goals as goal

pub returns : goal.returns
returns c =
    IfOk-weaker c.linked.result _ _
    (λ seats lists.
    subst (λ (x : Linked). ListsSeats x.keys (holds_at (linked_at (key_of Authority c.args.number x.keys)) x.state) seats.items) c.self.view_is
    (lists_linked c.self.inside.transaction.tables (contents c.self.inside.transaction) c.self.invariant.distinct c.self.invariant.now c.args.number
    (subst (λ (x : Linked). IsNumber Authority c.args.number x.keys) (sym c.self.view_is) c.requires) seats.items lists))
    c.linked.ensures
