use Rattle.std.proofs.Common.{rules, ◌≢◌}
use Rattle.checkpoint.proofs.Sorts.{no_part_there, no_sort}
use Rattle.checkpoint.proofs.parts.read_part.Goals as goal

pub returns-in_default-clause-bad : goal.returns-in_default-clause-bad
returns-in_default-clause-bad c = no_part_there c.args.payload.now c.in_default.ensures.cases

pub returns-in_default-first-clause-bad : goal.returns-in_default-first-clause-bad
returns-in_default-first-clause-bad c =
    let no_begin : c.in-Some.first.now ≢ 0x53 = search rules in
    let no_rows : c.in-Some.first.now ≢ 0x52 = search rules in
    let no_end : c.in-Some.first.now ≢ 0x45 = search rules in
    no_sort c.args.payload.now c.in-Some.behind.now c.in-Some.first.now c.in-Some.ensures.cases.0 no_begin no_rows no_end
