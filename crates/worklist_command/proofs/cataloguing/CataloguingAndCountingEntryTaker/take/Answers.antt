use Rattle.std.proofs.Common.{◌∙◌, ap}
use Rattle.std.proofs.lemmas.Result.{on_ok_weaker}
use Rattle.worklist_page.specs.Brought.{with_entry}
use Rattle.worklist_page.proofs.Counted.{counted_behind}
use Rattle.worklist_command.proofs.cataloguing.CataloguingAndCountingEntryTaker.take.Goals as goal

pub returns : goal.returns
returns g c =
    let brought = c.args.self.now.brought in
    record {
      taken = on_ok_weaker c.take.result (λ taken begun before so_far.
          let built = taken begun.building before (so_far.0, so_far.1) in (
            built.0,
            built.1,
            counted_behind before c.args.item brought c.count.new.self so_far.2
                (c.in_ok-count.ensures ∙ ap (with_entry brought) c.entry.ensures.value),
          ))
          c.take.ensures.taken;
    }
