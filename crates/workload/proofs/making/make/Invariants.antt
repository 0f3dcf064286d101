use Rattle.std.proofs.Common.{◌≡◌, ◌≤◌, length, is_some}
use Rattle.std.specs.List.{flat_map}
use Rattle.outside.proofs.Fronts.{IsWriting}
use Rattle.workload.specs.Records.{contents_bytes}
use Rattle.workload.specs.Workload.{workload_bytes}
use Rattle.workload.proofs.making.make.Given as goal

abbrev pub invariant-loop-rec : goal.invariant-loop-rec
invariant-loop-rec g l =
    IsWriting (g.K.Sink.written l.initial.out) (g.K.Sink.written l.out) (workload_bytes l.seed l.count) (flat_map contents_bytes l.maker)
    × (is_some (g.K.Sink.written l.out) ≡ is_some (g.K.Sink.written l.initial.out))
    × (g.K.Sink.faults l.initial.out ≤ g.K.Sink.faults l.out)

abbrev pub decreases-loop-rec : goal.decreases-loop-rec
decreases-loop-rec g l = length l.maker
