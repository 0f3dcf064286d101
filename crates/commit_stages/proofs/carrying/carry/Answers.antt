use Rattle.std.proofs.Common.{List, subst, sym}
use Rattle.marc_types.specs.declared.key.Key.{Key}
use Rattle.numbering.specs.declared.seat.Seat.{Seat}
use Rattle.linking_laws.specs.Tables.{holds_at, linked_at}
use Rattle.linked_store.specs.Linked.{ListsSeats}
use Rattle.commit_stages.proofs.Turning.{ahead_itself}
use Rattle.commit_stages.proofs.carrying.carry.Goals as goal

pub returns-in_err-seats-clause-ahead : goal.returns-in_err-seats-clause-ahead
returns-in_err-seats-clause-ahead g c = ahead_itself c.args.store.now

pub carry_from-requires-clause-lists : goal.carry_from-requires-clause-lists
carry_from-requires-clause-lists g c =
    let lists : ListsSeats c.args.store.now.keys (holds_at (linked_at c.args.key.now) c.args.store.now.state) c.in_ok-seats.seats.items =
    subst (λ (key : Key). ListsSeats c.args.store.now.keys (holds_at (linked_at key) c.args.store.now.state) c.in_ok-seats.seats.items) c.requires.key c.in_ok-seats.ensures in
    subst (λ (seats : List Seat). ListsSeats c.args.store.now.keys (holds_at (linked_at c.args.key.now) c.args.store.now.state) seats) (sym c.deref.ensures.value) lists
