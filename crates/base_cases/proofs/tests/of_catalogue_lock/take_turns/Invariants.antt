use Rattle.std.proofs.Common.{◌≡◌, ◌+◌}
use Rattle.catalogue_lock.specs.Passes.{IsPassOf}
use Rattle.base_cases.proofs.tests.of_catalogue_lock.take_turns.Given as goal

abbrev pub invariant-loop-number : goal.invariant-loop-number
invariant-loop-number g l = IsPassOf l.lock l.pass × (l.pass.turns ≡ l.initial.pass.turns + l.number)
