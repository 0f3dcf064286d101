use Rattle.std.proofs.Common.{◌∙◌}
use Rattle.written_record.proofs.written.WrittenRecord.leader.Goals as goal

pub leader_of-requires : goal.leader_of-requires
leader_of-requires c = c.parts.ensures.holds.sound

pub returns : goal.returns
returns c = c.leader_of.ensures.value ∙ c.parts.ensures.holds.leader
