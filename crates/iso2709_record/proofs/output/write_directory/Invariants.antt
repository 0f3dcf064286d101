use Rattle.std.proofs.Common.{◌≡◌, ◌+◌, ◌≤◌, drop}
use Rattle.std.specs.Prelude.{is_some}
use Rattle.marc_types.specs.Valid.{fields_size}
use Rattle.iso2709_record.specs.Written.{directory_bytes, fields_length}
use Rattle.outside.proofs.Fronts.{IsWriting}
use Rattle.iso2709_record.proofs.output.write_directory.Given as goal

abbrev pub invariant-loop-field : goal.invariant-loop-field
invariant-loop-field g l = record {
  writing : IsWriting (g.K.Sink.written l.fn.out) (g.K.Sink.written l.out) (directory_bytes 0 l.fields) (directory_bytes l.start (drop l.field-index l.fields));
  small : fields_size (drop l.field-index l.fields) ≤ 1000000;
  start : l.start + fields_length (drop l.field-index l.fields) ≤ 1024993;
  tells : is_some (g.K.Sink.written l.out) ≡ is_some (g.K.Sink.written l.fn.out);
  later : g.K.Sink.faults l.fn.out ≤ g.K.Sink.faults l.out;
}
