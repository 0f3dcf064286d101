use Rattle.loader_workers.specs.Gathering.{IsGathering}
use Rattle.loader_workers.proofs.gathering.gather.Given as goal

abbrev pub invariant-items : goal.invariant-items
invariant-items g l = IsGathering l.initial.entries l.entries l.initial.refused.items l.refused.items l.batch

abbrev pub decreases-items : goal.decreases-items
decreases-items g l = l.entries.stream.most
