use Rattle.std.proofs.Common.{take}
use Rattle.std.specs.List.{count_by}
use Rattle.heading_list.specs.Counting.{CountsRose, is_tied_to}
use Rattle.heading_list.proofs.links.Links.add_ties.Given as goal

abbrev pub invariant-loop-tie : goal.invariant-loop-tie
invariant-loop-tie l = CountsRose l.fn.self l.self (λ key. count_by (is_tied_to key) (take l.tie-index l.ties))
