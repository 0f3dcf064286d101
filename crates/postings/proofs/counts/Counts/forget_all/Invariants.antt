use Rattle.std.proofs.Common.{◌≡◌, ◌-◌, ℕ, nat_eq, take}
use Rattle.postings.specs.Counts.{times, brought}
use Rattle.postings.proofs.counts.Counts.forget_all.Given as goal

abbrev pub invariant-loop-i : goal.invariant-loop-i
invariant-loop-i g l =
    (n : ℕ) (p : g.row.P.Denot) → times g.P.PartialEq.eq l.self.groups n p
    ≡ times g.P.PartialEq.eq l.fn.self.groups n p - brought nat_eq g.P.PartialEq.eq (take l.i l.names) l.thing n p
