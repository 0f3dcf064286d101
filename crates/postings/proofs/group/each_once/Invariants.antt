use Rattle.std.proofs.Common.{take}
use Rattle.postings.specs.Group.{times_among}
use Rattle.postings.specs.Listed.{HasEach}
use Rattle.postings.proofs.group.each_once.Given as goal

abbrev pub invariant-loop-i : goal.invariant-loop-i
invariant-loop-i g l = HasEach g.P.PartialEq.eq (times_among g.P.PartialEq.eq (take l.i l.things)) l.once.items
