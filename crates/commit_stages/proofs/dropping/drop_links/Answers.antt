use Rattle.std.proofs.Common.{◌≡◌, List, subst, sym, true}
use Rattle.marc_types.specs.declared.key.Key.{Key}
use Rattle.numbering.specs.declared.seat.Seat.{Seat}
use Rattle.entry_record.specs.Authority.{is_valid_key}
use Rattle.linking_laws.specs.Tables.{dropped_at, holds_at}
use Rattle.linked_store.specs.Linked.{ListsSeats}
use Rattle.commit_stages.proofs.Turning.{ahead_itself}
use Rattle.commit_stages.specs.Dropping.{successor_to}
use Rattle.commit_stages.proofs.dropping.drop_links.Goals as goal

pub returns-in_err-seats-clause-ahead : goal.returns-in_err-seats-clause-ahead
returns-in_err-seats-clause-ahead g c = ahead_itself c.args.store.now

pub dropped-requires-clause-valid : goal.dropped-requires-clause-valid
dropped-requires-clause-valid g c = subst (λ (key : Key). is_valid_key key ≡ true) (sym c.requires.key) c.requires.valid

pub drop_at_seats-requires-clause-lists : goal.drop_at_seats-requires-clause-lists
drop_at_seats-requires-clause-lists g c =
    let lists : ListsSeats c.args.store.now.keys (holds_at (dropped_at c.args.links.key.now (successor_to c.args.links)) c.args.store.now.state) c.in_ok-seats.seats.items =
    subst (λ (key : Key). ListsSeats c.args.store.now.keys (holds_at (dropped_at key (successor_to c.args.links)) c.args.store.now.state) c.in_ok-seats.seats.items) c.requires.key c.in_ok-seats.ensures in
    subst (λ (seats : List Seat). ListsSeats c.args.store.now.keys (holds_at (dropped_at c.args.links.key.now (successor_to c.args.links)) c.args.store.now.state) seats) (sym c.deref.ensures.value) lists
