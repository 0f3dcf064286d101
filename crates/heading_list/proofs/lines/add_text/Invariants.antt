use Rattle.std.proofs.Common.{◌≡◌, ◌++◌, map, take}
use Rattle.heading_list.specs.Lines.{printed_byte}
use Rattle.heading_list.proofs.lines.add_text.Given as goal

abbrev pub invariant-loop-byte : goal.invariant-loop-byte
invariant-loop-byte l = l.text.items ≡ l.initial.text.items ++ map printed_byte (take l.byte-index l.bytes)
