use Rattle.split_command.proofs.Judging.{share_judged}
use Rattle.split_command.proofs.laws.a_share_is_read_as_what_is_its_own.Goals as goal

pub returns : goal.returns
returns c = share_judged
