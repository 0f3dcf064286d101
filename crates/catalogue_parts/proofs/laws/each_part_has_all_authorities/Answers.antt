use Rattle.catalogue_parts.proofs.Jobs.{same_authorities, same_linkables}
use Rattle.catalogue_parts.proofs.laws.each_part_has_all_authorities.Goals as goal

pub returns-clause-records : goal.returns-clause-records
returns-clause-records c j = same_authorities j.mine j.whole j.job j.admitted j.takes

pub returns-clause-headings : goal.returns-clause-headings
returns-clause-headings c j = same_linkables j.mine j.whole j.job j.admitted j.takes
