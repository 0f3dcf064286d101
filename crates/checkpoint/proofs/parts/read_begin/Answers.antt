use Rattle.std.proofs.Common.{rules}
use Rattle.checkpoint.proofs.Lists.{none_left, some_left}
use Rattle.checkpoint.proofs.Sorts.{begin_there, no_begin}
use Rattle.checkpoint.proofs.parts.read_begin.Goals as goal

pub returns-then-is_empty-clause-part : goal.returns-then-is_empty-clause-part
returns-then-is_empty-clause-part c = begin_there c.args.bytes.now (none_left _ _ c.is_empty.ensures (search rules))

pub returns-else-is_empty-clause-bad : goal.returns-else-is_empty-clause-bad
returns-else-is_empty-clause-bad c = no_begin c.args.bytes.now (some_left _ _ c.is_empty.ensures (search rules))
