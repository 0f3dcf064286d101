use Rattle.std.proofs.Common.{◌≡◌, string_bytes, take}
use Rattle.std.specs.List.{flat_map}
use Rattle.salvage_command.specs.Told.{damage_line}
use Rattle.salvage_command.proofs.text.damage_lines.Given as goal

abbrev pub invariant-loop-damage : goal.invariant-loop-damage
invariant-loop-damage l = string_bytes l.text ≡ flat_map damage_line (take l.damage-index l.damages)
