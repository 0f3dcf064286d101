use Rattle.std.proofs.Common.{◌≡◌, take}
use Rattle.std.specs.Prelude.{fold}
use Rattle.std.specs.BTreeSet.{insert_key}
use Rattle.match_report.specs.Postings.{posting_cmp}
use Rattle.match_report.specs.Groups.{postings_of_row}
use Rattle.match_report.proofs.table.add_postings.Given as goal

abbrev pub invariant-loop-number : goal.invariant-loop-number
invariant-loop-number l = l.held.keys ≡ fold (insert_key posting_cmp) l.fn.held.keys (postings_of_row (l.fn.key, take l.number-index l.number-items))
