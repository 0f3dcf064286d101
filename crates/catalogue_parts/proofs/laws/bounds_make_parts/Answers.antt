use Rattle.catalogue_parts.proofs.Ranges.{as_many_ranges, in_one_range}
use Rattle.catalogue_parts.proofs.laws.bounds_make_parts.Goals as goal

pub returns-clause-many : goal.returns-clause-many
returns-clause-many c = as_many_ranges

pub returns-clause-one : goal.returns-clause-one
returns-clause-one c = in_one_range
