use Rattle.std.proofs.Common.{List, ℕ, ◌<◌, get_or}
use Rattle.commit_journal.specs.Journal.{IsPayload}
use Rattle.base_cases.proofs.tests.of_commit_journal.are_payloads.Given as goal

abbrev pub invariant-loop-payload : goal.invariant-loop-payload
invariant-loop-payload g l = (k : ℕ) (d : List ℕ) → k < l.payload-index → IsPayload (get_or l.payloads k d)
