use Rattle.catalogue_parts.proofs.Jobs.{same_shared, same_cross}
use Rattle.catalogue_parts.proofs.laws.lines_of_authorities_are_the_same.Goals as goal

pub returns-clause-shared : goal.returns-clause-shared
returns-clause-shared c j = same_shared j.mine j.whole j.job j.admitted j.takes

pub returns-clause-cross : goal.returns-clause-cross
returns-clause-cross c j = same_cross j.mine j.whole j.job j.admitted j.takes
