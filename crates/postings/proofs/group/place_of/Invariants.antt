use Rattle.std.proofs.Common.{◌≡◌, true, take}
use Rattle.postings.specs.Group.{times_among}
use Rattle.postings.proofs.group.place_of.Given as goal

abbrev pub invariant-loop-i : goal.invariant-loop-i
invariant-loop-i g l = (p : g.row.P.Denot) → g.P.PartialEq.eq l.thing p ≡ true → times_among g.P.PartialEq.eq (take l.i l.things) p ≡ 0
