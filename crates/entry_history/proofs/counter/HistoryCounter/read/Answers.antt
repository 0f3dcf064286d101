use Rattle.std.specs.Prelude.{List}
use Rattle.std.proofs.Common.{subst}
use Rattle.std.proofs.lemmas.Result.{err_from_is_err_and}
use Rattle.marc_types.specs.declared.entry.Entry.{Entry}
use Rattle.entry_history.specs.Readers.{HasExtent, HoldsNone, Counted}
use Rattle.entry_history.proofs.counter.HistoryCounter.read.Goals as goal

pub returns-in_err-items-clause-bad : goal.returns-in_err-items-clause-bad
returns-in_err-items-clause-bad c =
    let p = err_from_is_err_and c.from_residual.result c.from_residual.ensures.1 in
    rw (p.1, p.2)
    (subst (λ (k : Counted). (before : List Entry) → HasExtent before k.extent → HoldsNone k.version before c.args.payload.now c.in_err-items.field-0.0)
    c.self.view_is c.in_err-items.ensures.bad)
