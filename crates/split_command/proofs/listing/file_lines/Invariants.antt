use Rattle.std.proofs.Common.{◌≡◌, take, string_bytes}
use Rattle.split_command.specs.Console.{file_lines}
use Rattle.split_command.proofs.listing.file_lines.Given as goal

abbrev pub invariant-loop-index : goal.invariant-loop-index
invariant-loop-index l = string_bytes l.text ≡ file_lines 0 (take l.index l.fn.libraries)
