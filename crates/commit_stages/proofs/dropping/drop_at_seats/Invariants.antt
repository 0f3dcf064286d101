use Rattle.std.proofs.Common.{take}
use Rattle.catalogue_rules.specs.State.{linkable_authorities}
use Rattle.commit_stages.specs.Noted.{AreNoted}
use Rattle.commit_stages.specs.Dropping.{drop_ending, dropping_of, successor_to}
use Rattle.commit_stages.proofs.Dropped.{IsDropAt}
use Rattle.commit_stages.proofs.dropping.drop_at_seats.Given as goal

abbrev pub invariant-loop-seat : goal.invariant-loop-seat
invariant-loop-seat g l =
    IsDropAt (dropping_of l.links) l.links.key.now (successor_to l.links) l.seats l.seat-index l.fn.store l.store l.fn.steps l.steps
    × AreNoted (drop_ending l.links (linkable_authorities l.fn.store.state)) l.fn.store (take l.seat-index l.seats) l.fn.noted l.noted
