use Rattle.reading.proofs.Records.{piece_is_record}
use Rattle.reading.proofs.record.read_record.Goals as goal

pub invariant_of-result : goal.invariant_of-result
invariant_of-result c = record {
  valid = piece_is_record _ _ _ c.in-Ok.ensures.sound c.leader_of.ensures.valid c.in_ok-fields.ensures.read;
}
