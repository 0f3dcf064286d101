use Rattle.std.proofs.Common.{◌≡◌, ◌++◌, map, take}
use Rattle.std.specs.List.{enumerate_from, filter_map}
use Rattle.catalogue_rules.specs.State.{linkable_authorities}
use Rattle.numbered_store.specs.Kept.{kept_record}
use Rattle.heading_worklist.specs.Headings.{compared, open_heading}
use Rattle.heading_worklist.proofs.finding.push_row.Given as goal

abbrev pub invariant-loop-place : goal.invariant-loop-place
invariant-loop-place l =
    l.found.items ≡ l.initial.found.items
    ++ map compared (filter_map (open_heading (linkable_authorities l.engine.state) l.class (l.key, kept_record l.kept)) (enumerate_from 0 (take l.place (kept_record l.kept).fields)))
