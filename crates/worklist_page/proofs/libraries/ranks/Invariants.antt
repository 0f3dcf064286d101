use Rattle.std.proofs.Common.{◌≡◌, map}
use Rattle.std.specs.Prelude.{fold}
use Rattle.std.specs.BTreeSet.{insert_key}
use Rattle.worklist_page.specs.Ranking.{by_size, ranked, ranked_cmp}
use Rattle.worklist_page.proofs.libraries.ranks.Given as goal

abbrev pub invariant-loop-code : goal.invariant-loop-code
invariant-loop-code l = fold (insert_key ranked_cmp) l.ranks.keys (map ranked l.code-iterator) ≡ by_size l.fn.rows.entries
