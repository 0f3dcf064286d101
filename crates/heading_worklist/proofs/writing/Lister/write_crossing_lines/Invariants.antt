use Rattle.std.proofs.Common.{◌≤◌, map}
use Rattle.std.specs.List.{flat_map}
use Rattle.std.specs.Option.{option_copied}
use Rattle.outside.proofs.Fronts.{IsWriting}
use Rattle.numbered_store.specs.Kept.{shown_row}
use Rattle.heading_worklist.specs.Counting.{kept_in}
use Rattle.heading_worklist.specs.Lines.{crossing_at, crossing_lines}
use Rattle.heading_worklist.specs.Csv.{line_bytes}
use Rattle.heading_worklist.proofs.writing.Lister.write_crossing_lines.Given as goal

abbrev pub invariant-loop-key : goal.invariant-loop-key
invariant-loop-key g l = record {
  writing : IsWriting (g.K.Sink.written l.initial.out) (g.K.Sink.written l.out)
      (flat_map line_bytes (crossing_lines (kept_in (option_copied l.self.code)) l.self.engine.now.state))
      (flat_map line_bytes (flat_map (crossing_at (kept_in (option_copied l.self.code)) l.self.engine.now.state) (map shown_row l.key-iterator)));
  later : g.K.Sink.faults l.initial.out ≤ g.K.Sink.faults l.out;
}
