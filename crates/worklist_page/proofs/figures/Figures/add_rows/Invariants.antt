use Rattle.std.proofs.Common.{◌≡◌, map}
use Rattle.catalogue_rules.specs.State.{linkable_authorities}
use Rattle.numbered_store.specs.Kept.{shown_row}
use Rattle.worklist_page.specs.Figures.{with_rows}
use Rattle.worklist_page.proofs.figures.Figures.add_rows.Given as goal

abbrev pub invariant-loop-key : goal.invariant-loop-key
invariant-loop-key l =
    with_rows (linkable_authorities l.engine.state) l.class l.self (map shown_row l.key-iterator)
    ≡ with_rows (linkable_authorities l.engine.state) l.class l.initial.self (map shown_row l.rows.entries)
