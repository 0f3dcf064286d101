use Rattle.std.proofs.Common.{◌≡◌, take}
use Rattle.plain_commands.specs.GivingBack.{refused_pieces}
use Rattle.plain_commands.proofs.giving_back.pieces_of.Given as goal

abbrev pub invariant-loop-item : goal.invariant-loop-item
invariant-loop-item l = l.pieces.items ≡ refused_pieces l.bytes (take l.item-index l.refused)
