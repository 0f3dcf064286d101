use Rattle.std.proofs.Common.{◌≤◌, drop}
use Rattle.std.specs.List.{filter_map, flat_map}
use Rattle.outside.proofs.Fronts.{IsWriting}
use Rattle.catalogue_tables.specs.Sharing.{shown_keys}
use Rattle.heading_worklist.specs.Lines.{crossing_line}
use Rattle.heading_worklist.specs.Csv.{line_bytes}
use Rattle.heading_worklist.proofs.writing.Lister.write_others.Given as goal

abbrev pub invariant-loop-key : goal.invariant-loop-key
invariant-loop-key g l = record {
  writing : IsWriting (g.K.Sink.written l.initial.out) (g.K.Sink.written l.out)
      (flat_map line_bytes (filter_map (crossing_line l.self.engine.now.state (shown_keys l.own)) (shown_keys l.others)))
      (flat_map line_bytes (filter_map (crossing_line l.self.engine.now.state (shown_keys l.own)) (shown_keys (drop l.key-index l.others))));
  later : g.K.Sink.faults l.initial.out ≤ g.K.Sink.faults l.out;
}
