use Rattle.split_command.proofs.Numbers.{in_its_range, within_ranges}
use Rattle.split_command.proofs.laws.a_key_has_one_part.Goals as goal

pub returns-clause-own : goal.returns-clause-own
returns-clause-own c = in_its_range

pub returns-clause-within : goal.returns-clause-within
returns-clause-within c = within_ranges
