use Rattle.std.proofs.Common.{◌∙◌, ap}
use Rattle.iso2709_record.specs.Written.{base_address}
use Rattle.iso2709_record.proofs.Places.{leader_is}
use Rattle.iso2709_record.proofs.output.write_leader.Goals as goal

pub returns-clause-bytes : goal.returns-clause-bytes
returns-clause-bytes g c =
    rw (c.leader_block.ensures ∙ leader_is _ _ _ _ c.requires (c.base_len-base.ensures ∙ ap base_address c.as_slice.ensures)) at c.write_all.ensures.bytes

pub returns-clause-front : goal.returns-clause-front
returns-clause-front g c =
    rw (c.leader_block.ensures ∙ leader_is _ _ _ _ c.requires (c.base_len-base.ensures ∙ ap base_address c.as_slice.ensures)) at c.write_all.ensures.front
