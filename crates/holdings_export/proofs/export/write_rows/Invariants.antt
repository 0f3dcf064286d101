use Rattle.std.proofs.Common.{◌≤◌, map}
use Rattle.outside.proofs.Fronts.{IsWriting}
use Rattle.selection.specs.Selections.{ForSelected}
use Rattle.holdings_export.specs.Output.{rows_with_holdings, lent_shelf}
use Rattle.holdings_export.proofs.export.write_rows.Given as goal
use Rattle.numbered_store.specs.Kept.{shown_row}

abbrev pub invariant-loop-key : goal.invariant-loop-key
invariant-loop-key g l = record {
  writing : ForSelected g.F.Fn l.selection (λ kept. IsWriting (g.K.Sink.written l.initial.out) (g.K.Sink.written l.out)
      (rows_with_holdings kept (lent_shelf l.groups) (map shown_row l.fn.rows.entries))
      (rows_with_holdings kept (lent_shelf l.groups) (map shown_row l.key-iterator)));
  later : g.K.Sink.faults l.initial.out ≤ g.K.Sink.faults l.out;
}
