use Rattle.std.proofs.Common.{◌≡◌, ◌↔◌, map}
use Rattle.catalogue_rules.specs.State.{rows_of}
use Rattle.kept_rows.specs.Rows.{rows_in}
use Rattle.numbered_store.specs.Kept.{shown_row}
use Rattle.restoring.proofs.comparing.has_rows_of.Given as goal

abbrev pub invariant-loop-key : goal.invariant-loop-key
invariant-loop-key l = (rows_of l.class l.engine.state ≡ rows_in l.class l.fn.rows) ↔ (map shown_row l.key-iterator ≡ rows_in l.class l.rest)
