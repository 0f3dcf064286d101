use Rattle.std.proofs.Common.{◌≡◌, ◌+◌, length}
use Rattle.catalogue_rules.specs.Settle.{state_of}
use Rattle.holdings_export.specs.Output.{attached_holdings, waiting_holdings}
use Rattle.holdings_export.proofs.counts.count.Given as goal

abbrev pub invariant-loop-key : goal.invariant-loop-key
invariant-loop-key l = record {
  attached : l.counts.attached + length (attached_holdings (state_of l.core.history) l.key-iterator) ≡ length (attached_holdings (state_of l.core.history) l.shelf);
  waiting : l.counts.waiting + length (waiting_holdings (state_of l.core.history) l.key-iterator) ≡ length (waiting_holdings (state_of l.core.history) l.shelf);
}
