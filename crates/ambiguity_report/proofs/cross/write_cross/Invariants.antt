use Rattle.std.proofs.Common.{◌≡◌, ◌≤◌, map}
use Rattle.std.specs.Prelude.{is_some}
use Rattle.std.specs.List.{flat_map}
use Rattle.outside.proofs.Fronts.{IsWriting}
use Rattle.catalogue_rules.specs.Output.{cross_lines}
use Rattle.catalogue_rules.specs.State.{linkable_authorities}
use Rattle.ambiguity_report.proofs.Scans.{cross_at}
use Rattle.ambiguity_report.proofs.cross.write_cross.Given as goal
use Rattle.numbered_store.specs.Kept.{shown_row}

abbrev pub invariant-loop-key : goal.invariant-loop-key
invariant-loop-key g l = record {
  writing : IsWriting (g.K.Sink.written l.initial.out) (g.K.Sink.written l.out) (cross_lines (linkable_authorities l.engine.state))
      (flat_map (cross_at (linkable_authorities l.engine.state)) (map shown_row l.key-iterator));
  tells : is_some (g.K.Sink.written l.out) ≡ is_some (g.K.Sink.written l.initial.out);
  later : g.K.Sink.faults l.initial.out ≤ g.K.Sink.faults l.out;
}
