use Rattle.std.proofs.Common.{◌≡◌, take, string_bytes}
use Rattle.split_command.specs.Console.{bound_lines}
use Rattle.split_command.proofs.listing.bound_lines.Given as goal

abbrev pub invariant-loop-index : goal.invariant-loop-index
invariant-loop-index l = string_bytes l.text ≡ bound_lines 1 (take l.index l.fn.bounds)
