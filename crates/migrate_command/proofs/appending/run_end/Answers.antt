use Rattle.std.proofs.Common.{arith}
use Rattle.migrate_command.proofs.Payloads.{slice_len}
use Rattle.migrate_command.proofs.appending.run_end.Goals as goal

pub returns-clause-within : goal.returns-clause-within
returns-clause-within c =
    let few = c.run_length.ensures.within in
    let left = slice_len c.args.at c.args.payloads.now in
    let one = c.max.ensures in
    let there = c.requires in
    omega (arith, few, left, one, there)
