use Rattle.std.proofs.Common.{◌≡◌, ◌+◌, true, subst, arith}
use Rattle.std.specs.List.{All}
use Rattle.split_command.specs.Names.{names_from}
use Rattle.split_command.proofs.Free.{IsFree}
use Rattle.split_command.proofs.standing.are_shares_free.Goals as goal

pub returns : goal.returns
returns g c =
    let end : c.loop-share.share ≡ c.args.parts + 1 = omega arith in
    let room = g.R.Room.seen c.args.room.now in
    subst (λ n. room.tells ≡ true → All (IsFree room) (names_from c.args.prefix.now c.args.file 0 n)) end c.loop-share.invariant
