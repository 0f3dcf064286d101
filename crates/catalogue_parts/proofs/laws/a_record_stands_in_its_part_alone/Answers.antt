use Rattle.catalogue_parts.proofs.Jobs.{kept_in_part}
use Rattle.catalogue_parts.proofs.laws.a_record_stands_in_its_part_alone.Goals as goal

pub returns : goal.returns
returns c j key = kept_in_part j.mine j.whole j.job key j.admitted j.takes
