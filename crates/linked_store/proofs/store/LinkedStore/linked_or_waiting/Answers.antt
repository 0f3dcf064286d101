use Rattle.std.proofs.Common.{◌≡◌, List, Some, subst, sym, true}
use Rattle.marc_types.specs.declared.key.Class.TheVariants.{Authority}
use Rattle.numbering.specs.declared.seat.Seat.{Seat}
use Rattle.entry_record.specs.Authority.{is_valid_key}
use Rattle.linking_laws.specs.Tables.{dropped_at, holds_at}
use Rattle.linked_store.specs.Transactions.{contents}
use Rattle.linked_store.specs.Linked.{IsNumber, Linked, ListsSeats, key_of}
use Rattle.linked_store.proofs.Listing.{lists_either}
use Rattle.linked_store.proofs.store.LinkedStore.linked_or_waiting.Goals as goal

pub returns : goal.returns
returns c = λ successor.
    subst (λ (l : List Seat). ListsSeats c.args.self.now.keys (holds_at (dropped_at (key_of Authority c.args.number c.args.self.now.keys) (Some successor)) c.args.self.now.state) l)
    (sym c.in_ok-seats.ensures.all)
    (subst (λ (x : Linked). ListsSeats x.keys (holds_at (dropped_at (key_of Authority c.args.number x.keys) (Some successor)) x.state) c.gather.new.found) c.self.view_is
    (lists_either c.self.inside.transaction.tables (contents c.self.inside.transaction) c.self.invariant.distinct c.self.invariant.now c.args.number
    (subst (λ (x : Linked). IsNumber Authority c.args.number x.keys) (sym c.self.view_is) c.requires.known)
    (subst (λ (x : Linked). is_valid_key (key_of Authority c.args.number x.keys) ≡ true) (sym c.self.view_is) c.requires.valid)
    c.in_ok-found.found c.gather.new.found c.in_ok-linked.linked.items c.in_ok-seats.ensures.once c.in_ok-found.ensures c.in_ok-linked.ensures
    (rw c.deref.ensures.value at c.in_ok-gather.ensures) successor))
