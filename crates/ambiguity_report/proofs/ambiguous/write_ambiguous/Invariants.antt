use Rattle.std.proofs.Common.{◌≡◌, ◌≤◌, map}
use Rattle.std.specs.Prelude.{is_some}
use Rattle.outside.proofs.Fronts.{IsWriting}
use Rattle.catalogue_rules.specs.State.{linkable_authorities, rows_of}
use Rattle.catalogue_rules.specs.Output.{ambiguous_line}
use Rattle.ambiguity_report.specs.Beside.{rows_lines}
use Rattle.ambiguity_report.proofs.Counting.{AreCounting}
use Rattle.ambiguity_report.proofs.ambiguous.write_ambiguous.Given as goal
use Rattle.numbered_store.specs.Kept.{shown_row}

abbrev pub invariant-loop-key : goal.invariant-loop-key
invariant-loop-key g l = record {
  writing : IsWriting (g.K.Sink.written l.initial.out) (g.K.Sink.written l.out)
      (rows_lines (ambiguous_line (linkable_authorities l.engine.state)) l.class (rows_of l.class l.engine.state))
      (rows_lines (ambiguous_line (linkable_authorities l.engine.state)) l.class (map shown_row l.key-iterator));
  counting : AreCounting (linkable_authorities l.engine.state) l.class (rows_of l.class l.engine.state) (map shown_row l.key-iterator) l.totals;
  tells : is_some (g.K.Sink.written l.out) ≡ is_some (g.K.Sink.written l.initial.out);
  later : g.K.Sink.faults l.initial.out ≤ g.K.Sink.faults l.out;
}
