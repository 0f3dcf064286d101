use Rattle.std.proofs.Common.{◌≡◌, ◌++◌}
use Rattle.catalogue_rules.specs.Settle.{state_of}
use Rattle.holdings_export.proofs.Written.{waiting_bytes}
use Rattle.holdings_export.proofs.waiting.WaitingHoldings.of.Given as goal

abbrev pub invariant-loop-key : goal.invariant-loop-key
invariant-loop-key l = l.waiting ++ waiting_bytes (state_of l.core.history) l.key-iterator ≡ waiting_bytes (state_of l.core.history) l.shelf
