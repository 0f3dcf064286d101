use Rattle.std.proofs.Common.{◌≤◌}
use Rattle.std.specs.List.{flat_map}
use Rattle.std.specs.Option.{option_copied}
use Rattle.outside.proofs.Fronts.{IsWriting}
use Rattle.heading_worklist.specs.Counting.{kept_in}
use Rattle.heading_worklist.specs.Worklist.{counted_lines}
use Rattle.heading_worklist.specs.Csv.{line_bytes}
use Rattle.heading_worklist.proofs.writing.Lister.write_counted.Given as goal

abbrev pub invariant-loop-counted : goal.invariant-loop-counted
invariant-loop-counted g l = record {
  writing : IsWriting (g.K.Sink.written l.initial.out) (g.K.Sink.written l.out)
      (flat_map line_bytes (counted_lines (kept_in (option_copied l.self.code)) l.self.engine.now.state l.lines.keys))
      (flat_map line_bytes (counted_lines (kept_in (option_copied l.self.code)) l.self.engine.now.state l.counted-iterator));
  later : g.K.Sink.faults l.initial.out ≤ g.K.Sink.faults l.out;
}
