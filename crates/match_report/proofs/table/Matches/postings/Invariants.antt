use Rattle.std.proofs.Common.{◌≡◌}
use Rattle.std.specs.Prelude.{fold}
use Rattle.std.specs.List.{flat_map}
use Rattle.std.specs.BTreeSet.{insert_key}
use Rattle.match_report.specs.Postings.{posting_cmp}
use Rattle.match_report.specs.Groups.{postings_of_row, postings_of}
use Rattle.match_report.proofs.table.Matches.postings.Given as goal

abbrev pub invariant-loop-key : goal.invariant-loop-key
invariant-loop-key l = fold (insert_key posting_cmp) l.held.keys (flat_map postings_of_row l.key-iterator) ≡ postings_of l.fn.self
