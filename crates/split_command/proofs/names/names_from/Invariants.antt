use Rattle.std.proofs.Common.{◌≡◌}
use Rattle.split_command.specs.Names.{names_from}
use Rattle.split_command.proofs.names.names_from.Given as goal

abbrev pub invariant-loop-place : goal.invariant-loop-place
invariant-loop-place l = l.names.items ≡ names_from l.fn.prefix l.fn.file l.fn.first l.place
