use Rattle.std.proofs.Common.{◌≡◌, ◌≤◌, drop}
use Rattle.std.specs.Prelude.{is_some}
use Rattle.std.specs.List.{flat_map}
use Rattle.iso2709_record.specs.Written.{subfield_bytes}
use Rattle.outside.proofs.Fronts.{IsWriting}
use Rattle.iso2709_record.proofs.fields.write_subfields.Given as goal

abbrev pub invariant-loop-subfield : goal.invariant-loop-subfield
invariant-loop-subfield g l = record {
  writing : IsWriting (g.K.Sink.written l.fn.out) (g.K.Sink.written l.out) (flat_map subfield_bytes l.subfields) (flat_map subfield_bytes (drop l.subfield-index l.subfields));
  tells : is_some (g.K.Sink.written l.out) ≡ is_some (g.K.Sink.written l.fn.out);
  later : g.K.Sink.faults l.fn.out ≤ g.K.Sink.faults l.out;
}
