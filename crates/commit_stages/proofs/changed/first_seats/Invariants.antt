use Rattle.std.proofs.Common.{take}
use Rattle.commit_stages.specs.Noted.{AreFirstSeats}
use Rattle.commit_stages.proofs.changed.first_seats.Given as goal

abbrev pub invariant-loop-index : goal.invariant-loop-index
invariant-loop-index l = AreFirstSeats l.class l.number (take l.index l.noted) l.firsts
