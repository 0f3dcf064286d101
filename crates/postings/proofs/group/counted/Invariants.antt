use Rattle.std.proofs.Common.{◌≡◌, take}
use Rattle.postings.specs.Group.{times_among, times_counted}
use Rattle.postings.proofs.group.counted.Given as goal

abbrev pub invariant-loop-i : goal.invariant-loop-i
invariant-loop-i g l = (p : g.row.P.Denot) → times_counted g.P.PartialEq.eq l.counts p ≡ times_among g.P.PartialEq.eq (take l.i l.things) p
