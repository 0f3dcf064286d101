use Rattle.std.proofs.Common.{◌≡◌, drop}
use Rattle.catalogue_core.specs.Engines.{kept_engine}
use Rattle.restoring.proofs.Taking.{IsGoingOn}
use Rattle.restoring.proofs.resuming.go_on.Given as goal

abbrev pub invariant-loop-entry : goal.invariant-loop-entry
invariant-loop-entry g l = record {
  going : IsGoingOn l.engine.state l.fn.engine.state (drop l.entry-index l.entries) l.entries l.steps l.fn.steps;
  kept : l.engine ≡ kept_engine l.engine.state;
}
