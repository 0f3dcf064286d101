use Rattle.std.proofs.Common.{◌≡◌, take}
use Rattle.numbering.proofs.numbers.table_of.Given as goal

abbrev pub invariant-loop-i : goal.invariant-loop-i
invariant-loop-i g l = l.table.keys ≡ take l.i l.things
