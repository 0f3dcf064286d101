use Rattle.catalogue_parts.proofs.Jobs.{job_cut}
use Rattle.catalogue_parts.proofs.laws.a_job_comes_to_its_part_of_the_state.Goals as goal

pub returns : goal.returns
returns c j = job_cut j.mine j.whole j.job j.admitted j.takes
