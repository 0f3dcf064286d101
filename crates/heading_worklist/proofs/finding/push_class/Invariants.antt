use Rattle.std.proofs.Common.{◌≡◌, ◌++◌, map}
use Rattle.std.specs.List.{flat_map}
use Rattle.catalogue_rules.specs.State.{linkable_authorities}
use Rattle.numbered_store.specs.Kept.{shown_row}
use Rattle.heading_worklist.specs.Headings.{compared, open_in_class, open_in_row}
use Rattle.heading_worklist.proofs.finding.push_class.Given as goal

abbrev pub invariant-loop-key : goal.invariant-loop-key
invariant-loop-key l =
    l.found.items ++ map compared (flat_map (open_in_row (linkable_authorities l.engine.state) l.class) (map shown_row l.key-iterator))
    ≡ l.initial.found.items ++ map compared (open_in_class l.engine.state l.class)
