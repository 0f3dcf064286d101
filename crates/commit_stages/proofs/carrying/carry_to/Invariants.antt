use Rattle.std.proofs.Common.{take}
use Rattle.field_settling.specs.Held.{heading_as}
use Rattle.commit_stages.specs.Noted.{AreNoted}
use Rattle.commit_stages.specs.Carrying.{carry_heading}
use Rattle.commit_stages.proofs.CarriedField.{IsCarrying}
use Rattle.commit_stages.proofs.carrying.carry_to.Given as goal

abbrev pub invariant-loop-seat : goal.invariant-loop-seat
invariant-loop-seat g l =
    IsCarrying l.key (heading_as l.heading) l.seats l.seat-index l.fn.store l.store l.fn.steps l.steps
    × AreNoted (carry_heading l.key (heading_as l.heading)) l.fn.store (take l.seat-index l.seats) l.fn.noted l.noted
