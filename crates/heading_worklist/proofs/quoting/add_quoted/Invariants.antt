use Rattle.std.proofs.Common.{◌≡◌, ◌++◌, take}
use Rattle.heading_worklist.specs.Csv.{quoted}
use Rattle.heading_worklist.proofs.quoting.add_quoted.Given as goal

abbrev pub invariant-loop-byte : goal.invariant-loop-byte
invariant-loop-byte l = l.line.items ≡ l.initial.line.items ++ quoted (take l.byte-index l.text)
