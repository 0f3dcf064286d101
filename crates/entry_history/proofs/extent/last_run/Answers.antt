use Rattle.std.proofs.Common.{◌∙◌, sym, ap}
use Rattle.marc_types.specs.declared.entry.Entry.{Entry}
use Rattle.entry_history.proofs.ReadPayloads.{last_run_behind, last_run_before}
use Rattle.entry_history.proofs.extent.last_run.Goals as goal

pub returns-in-Some : goal.returns-in-Some
returns-in-Some c entries is =
    ap (λ (e : Entry). e.run) c.entry.ensures.value ∙ sym (last_run_behind entries c.args.items.now c.in-Some.item.now (sym c.in-Some.ensures.value))

pub returns-in-None : goal.returns-in-None
returns-in-None c entries is = sym is ∙ sym (last_run_before entries c.args.items.now (sym c.in-None.ensures.value))
