-- How many records a workload has.
use Rattle.std.proofs.Common.{◌≡◌, ℕ, zero, suc, ◌+◌, length, refl, arith}
use Rattle.workload.specs.Drafts.{state_behind}
use Rattle.workload.specs.Workload.{records_from}

pub record_count : (names left number state : ℕ) → length (records_from names left number state) ≡ left
record_count names zero number state = refl
record_count names (suc left) number state = omega (arith, record_count names left (number + 1) (state_behind names number state))
