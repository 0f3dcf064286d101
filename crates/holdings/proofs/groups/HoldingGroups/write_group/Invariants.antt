use Rattle.std.proofs.Common.{◌≤◌, drop}
use Rattle.std.specs.List.{flat_map}
use Rattle.outside.proofs.Fronts.{IsWriting}
use Rattle.holdings.specs.Shelves.{written_holding}
use Rattle.holdings.proofs.groups.HoldingGroups.write_group.Given as goal

abbrev pub invariant-loop-row : goal.invariant-loop-row
invariant-loop-row g l = record {
  writing : IsWriting (g.K.Sink.written l.initial.out) (g.K.Sink.written l.out) (flat_map written_holding l.row-items) (flat_map written_holding (drop l.row-index l.row-items));
  later : g.K.Sink.faults l.initial.out ≤ g.K.Sink.faults l.out;
}
