use Rattle.std.proofs.Common.{◌≡◌, ◌≤◌, map}
use Rattle.std.specs.Prelude.{is_some}
use Rattle.outside.proofs.Fronts.{IsWriting}
use Rattle.catalogue_rules.specs.Output.{awaits_line}
use Rattle.ambiguity_report.specs.Beside.{rows_lines}
use Rattle.ambiguity_report.proofs.awaits.write_awaits.Given as goal
use Rattle.numbered_store.specs.Kept.{shown_row}

abbrev pub invariant-loop-key : goal.invariant-loop-key
invariant-loop-key g l = record {
  writing : IsWriting (g.K.Sink.written l.initial.out) (g.K.Sink.written l.out)
      (rows_lines awaits_line l.class (map shown_row l.fn.rows.entries)) (rows_lines awaits_line l.class (map shown_row l.key-iterator));
  tells : is_some (g.K.Sink.written l.out) ≡ is_some (g.K.Sink.written l.initial.out);
  later : g.K.Sink.faults l.initial.out ≤ g.K.Sink.faults l.out;
}
