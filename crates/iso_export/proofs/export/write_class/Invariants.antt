use Rattle.std.proofs.Common.{◌≤◌, map}
use Rattle.catalogue_rules.specs.Output.{export_of_rows}
use Rattle.outside.proofs.Fronts.{IsWriting}
use Rattle.numbered_store.specs.Kept.{shown_row}
use Rattle.selection.specs.Selections.{ForSelected}
use Rattle.iso_export.proofs.export.write_class.Given as goal

abbrev pub invariant-loop-key : goal.invariant-loop-key
invariant-loop-key g l = record {
  writing : ForSelected g.F.Fn l.selection (λ kept. IsWriting (g.K.Sink.written l.initial.out) (g.K.Sink.written l.out)
      (export_of_rows kept (map shown_row l.fn.rows.entries)) (export_of_rows kept (map shown_row l.key-iterator)));
  later : g.K.Sink.faults l.initial.out ≤ g.K.Sink.faults l.out;
}
