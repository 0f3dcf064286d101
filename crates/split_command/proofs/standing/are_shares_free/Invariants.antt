use Rattle.std.proofs.Common.{◌≡◌, true}
use Rattle.std.specs.List.{All}
use Rattle.split_command.specs.Names.{names_from}
use Rattle.split_command.proofs.Free.{IsFree}
use Rattle.split_command.proofs.standing.are_shares_free.Given as goal

abbrev pub invariant-loop-share : goal.invariant-loop-share
invariant-loop-share g l = (g.R.Room.seen l.fn.room).tells ≡ true → All (IsFree (g.R.Room.seen l.fn.room)) (names_from l.fn.prefix l.fn.file 0 l.share)
