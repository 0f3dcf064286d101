use Rattle.checkpoint.proofs.Sorts.{part_once}
use Rattle.checkpoint.proofs.laws.a_payload_is_one_part.Goals as goal

pub returns : goal.returns
returns c = part_once
