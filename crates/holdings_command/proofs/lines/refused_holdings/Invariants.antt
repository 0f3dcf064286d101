use Rattle.std.proofs.Common.{◌≡◌, string_bytes, take}
use Rattle.holdings_command.specs.Lines.{refused_holding_lines}
use Rattle.holdings_command.proofs.lines.refused_holdings.Given as goal

abbrev pub invariant-loop-item : goal.invariant-loop-item
invariant-loop-item l = string_bytes l.text ≡ refused_holding_lines l.file (take l.item-index l.refused)
