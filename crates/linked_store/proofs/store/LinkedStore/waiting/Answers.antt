use Rattle.std.proofs.Common.{◌≡◌, List, subst, sym, true}
use Rattle.marc_types.specs.declared.key.Class.TheVariants.{Authority}
use Rattle.numbering.specs.declared.seat.Seat.{Seat}
use Rattle.entry_record.specs.Authority.{is_valid_key}
use Rattle.catalogue_tables.specs.Lent.{shown_forms}
use Rattle.linking_laws.specs.Tables.{holds_at}
use Rattle.linking_laws.specs.Waiting.{is_waiting_for}
use Rattle.linked_store.specs.Transactions.{contents}
use Rattle.linked_store.specs.Linked.{IsNumber, Linked, ListsSeats, key_of}
use Rattle.linked_store.proofs.Listing.{lists_waiting}
use Rattle.linked_store.proofs.store.LinkedStore.waiting.Goals as goal

pub returns : goal.returns
returns c =
    subst (λ (l : List Seat). ListsSeats c.args.self.now.keys (holds_at (is_waiting_for (shown_forms c.args.forms.now) (key_of Authority c.args.number c.args.self.now.keys)) c.args.self.now.state) l)
    (sym c.in_ok-seats.ensures.all)
    (subst (λ (x : Linked). ListsSeats x.keys (holds_at (is_waiting_for (shown_forms c.args.forms.now) (key_of Authority c.args.number x.keys)) x.state) c.in_ok-found.found) c.self.view_is
    (lists_waiting c.self.inside.transaction.tables (contents c.self.inside.transaction) c.self.invariant.distinct c.self.invariant.now c.args.number
    (subst (λ (x : Linked). IsNumber Authority c.args.number x.keys) (sym c.self.view_is) c.requires.known) (shown_forms c.args.forms.now) c.in_ok-found.found
    (subst (λ (x : Linked). is_valid_key (key_of Authority c.args.number x.keys) ≡ true) (sym c.self.view_is) c.requires.valid)
    c.in_ok-found.ensures))
