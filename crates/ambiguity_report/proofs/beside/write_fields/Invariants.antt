use Rattle.std.proofs.Common.{◌≡◌, ◌≤◌, drop}
use Rattle.std.specs.Prelude.{is_some}
use Rattle.outside.proofs.Fronts.{IsWriting}
use Rattle.ambiguity_report.specs.Beside.{lines_beside}
use Rattle.ambiguity_report.proofs.beside.write_fields.Given as goal

abbrev pub invariant-loop-place : goal.invariant-loop-place
invariant-loop-place g l = record {
  writing : IsWriting (g.K.Sink.written l.initial.out) (g.K.Sink.written l.out)
      (lines_beside (g.B.Beside.field_line l.class l.key) 0 l.tags l.besides)
      (lines_beside (g.B.Beside.field_line l.class l.key) l.place (drop l.place l.tags) (drop l.place l.besides));
  tells : is_some (g.K.Sink.written l.out) ≡ is_some (g.K.Sink.written l.initial.out);
  later : g.K.Sink.faults l.initial.out ≤ g.K.Sink.faults l.out;
}
