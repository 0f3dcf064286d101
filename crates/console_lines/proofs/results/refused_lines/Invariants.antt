use Rattle.std.proofs.Common.{◌≡◌, string_bytes, take}
use Rattle.console_lines.specs.Lines.{refused_lines}
use Rattle.console_lines.proofs.results.refused_lines.Given as goal

abbrev pub invariant-loop-item : goal.invariant-loop-item
invariant-loop-item l = string_bytes l.text ≡ refused_lines l.file (take l.item-index l.refused)
