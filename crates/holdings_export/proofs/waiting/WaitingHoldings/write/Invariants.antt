use Rattle.std.proofs.Common.{◌≤◌, drop}
use Rattle.std.specs.List.{flat_map}
use Rattle.outside.proofs.Fronts.{IsWriting}
use Rattle.holdings_export.proofs.waiting.WaitingHoldings.write.Given as goal

abbrev pub invariant-loop-held : goal.invariant-loop-held
invariant-loop-held g l = record {
  writing : IsWriting (g.K.Sink.written l.initial.out) (g.K.Sink.written l.out) l.self (flat_map (λ held. held.now.written) (drop l.held-index l.held-items));
  later : g.K.Sink.faults l.initial.out ≤ g.K.Sink.faults l.out;
}
