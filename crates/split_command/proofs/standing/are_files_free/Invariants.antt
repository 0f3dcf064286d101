use Rattle.std.proofs.Common.{◌≡◌, true}
use Rattle.std.specs.List.{All}
use Rattle.split_command.specs.Names.{names_of_files}
use Rattle.split_command.proofs.Free.{IsFree}
use Rattle.split_command.proofs.standing.are_files_free.Given as goal

abbrev pub invariant-loop-file : goal.invariant-loop-file
invariant-loop-file g l = (g.R.Room.seen l.fn.room).tells ≡ true → All (IsFree (g.R.Room.seen l.fn.room)) (names_of_files l.fn.prefix l.fn.parts 0 l.file)
