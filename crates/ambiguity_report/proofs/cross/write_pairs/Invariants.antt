use Rattle.std.proofs.Common.{◌≡◌, ◌≤◌, drop}
use Rattle.std.specs.Prelude.{is_some}
use Rattle.std.specs.List.{flat_map}
use Rattle.outside.proofs.Fronts.{IsWriting}
use Rattle.catalogue_tables.specs.Sharing.{shown_keys}
use Rattle.ambiguity_report.specs.Beside.{cross_text}
use Rattle.ambiguity_report.proofs.cross.write_pairs.Given as goal

abbrev pub invariant-loop-second : goal.invariant-loop-second
invariant-loop-second g l = record {
  writing : IsWriting (g.K.Sink.written l.initial.out) (g.K.Sink.written l.out) (flat_map (cross_text l.first) (shown_keys l.others))
      (flat_map (cross_text l.first) (shown_keys (drop l.second-index l.others)));
  tells : is_some (g.K.Sink.written l.out) ≡ is_some (g.K.Sink.written l.initial.out);
  later : g.K.Sink.faults l.initial.out ≤ g.K.Sink.faults l.out;
}
