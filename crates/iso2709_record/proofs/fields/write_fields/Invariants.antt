use Rattle.std.proofs.Common.{◌≡◌, ◌≤◌, drop}
use Rattle.std.specs.Prelude.{is_some}
use Rattle.std.specs.List.{flat_map}
use Rattle.iso2709_record.specs.Written.{field_bytes}
use Rattle.outside.proofs.Fronts.{IsWriting}
use Rattle.iso2709_record.proofs.fields.write_fields.Given as goal

abbrev pub invariant-loop-field : goal.invariant-loop-field
invariant-loop-field g l = record {
  writing : IsWriting (g.K.Sink.written l.fn.out) (g.K.Sink.written l.out) (flat_map field_bytes l.fields) (flat_map field_bytes (drop l.field-index l.fields));
  tells : is_some (g.K.Sink.written l.out) ≡ is_some (g.K.Sink.written l.fn.out);
  later : g.K.Sink.faults l.fn.out ≤ g.K.Sink.faults l.out;
}
