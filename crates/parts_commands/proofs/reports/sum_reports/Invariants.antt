use Rattle.std.proofs.Common.{◌≡◌, ◌+◌, ◌*◌, true, [], take}
use Rattle.outside.specs.Room.{SameBut}
use Rattle.parts_commands.specs.Reading.{AreUpTo, greatest, numbers_of}
use Rattle.parts_commands.specs.Reports.{AreSummed}
use Rattle.parts_commands.proofs.reports.sum_reports.Given as goal

abbrev pub invariant-loop-name : goal.invariant-loop-name
invariant-loop-name g l = record {
  stays : SameBut (g.R.Room.seen l.fn.room) (g.R.Room.seen l.room) [];
  summed : (g.R.Room.seen l.fn.room).tells ≡ true → AreSummed (g.R.Room.seen l.fn.room).file l.fn.shared (take l.name-index l.fn.names) (numbers_of l.sums);
  most : AreUpTo ((l.name-index + 1) * greatest) (numbers_of l.sums);
}
