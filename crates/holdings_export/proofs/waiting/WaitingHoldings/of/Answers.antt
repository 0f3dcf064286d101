use Rattle.std.proofs.Common.{◌∙◌, ◌++◌, ap, sym, append_assoc}
use Rattle.catalogue_rules.specs.Settle.{state_of}
use Rattle.holdings_export.proofs.Written.{waiting_bytes, next_waiting}
use Rattle.holdings_export.proofs.waiting.WaitingHoldings.of.Goals as goal

pub loop-key-preserved : goal.loop-key-preserved
loop-key-preserved c =
    let s = state_of c.args.core.now.history in
    ap (λ bytes. bytes ++ waiting_bytes s c.next.new.self) c.in_ok-take.ensures
    ∙ append_assoc c.loop-key.waiting _ _
    ∙ ap (λ bytes. c.loop-key.waiting ++ bytes) (sym (next_waiting s _ _ _ c.in-Some.ensures.steps))
    ∙ c.loop-key.invariant
