use Rattle.split_command.proofs.Judging.{cut_judged}
use Rattle.split_command.proofs.laws.a_cut_is_a_judgement.Goals as goal

pub returns : goal.returns
returns c = cut_judged
