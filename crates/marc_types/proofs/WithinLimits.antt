-- Any limits are within the most of any catalogue.
use Rattle.std.proofs.Common.{ℕ, Bool, true, false, ◌≤◌, arith}
use Rattle.marc_types.specs.Limits.{limits_of, most_entries, most_bytes}

plain_entries : 1048576 ≤ 134217728
plain_entries = omega arith

plain_bytes : 536870912 ≤ 137438953472
plain_bytes = omega arith

within_itself : (n : ℕ) → n ≤ n
within_itself n = omega arith

pub limits_within : (large : Bool) → ((limits_of large).entries ≤ most_entries) × ((limits_of large).bytes ≤ most_bytes)
limits_within false = (plain_entries, plain_bytes)
limits_within true = (within_itself 134217728, within_itself 137438953472)
