use Rattle.std.proofs.Common.{◌∙◌, Bool, Ok, Err, ap, subst, sym}
use Rattle.std.proofs.lemmas.Result.{err_from_is_err_and}
use Rattle.marc_types.specs.declared.entry.Limits.{Limits}
use Rattle.file_entries.specs.Entries.{IsAnswered}
use Rattle.file_entries.proofs.Judged.{answered_none}
use Rattle.plain_commands.specs.Loading.{LoadedView, LoadsItems, TakesNext, told_items}
use Rattle.plain_commands.proofs.Loads.{answered_taken, limits_taken, loads_in_part}
use Rattle.plain_commands.proofs.loading.load_entries.Goals as goal

pub items-init : goal.items-init
items-init g c = (
  subst (λ (l : LoadedView). IsAnswered c.args.entries.now c.args.entries.now l.accepted l.refused) (sym c.new-loaded.ensures)
      (answered_none _ c.requires.going),
  ap (λ (l : LoadedView). l.limits) c.new-loaded.ensures,
)

pub items-preserved : goal.items-preserved
items-preserved g c =
    let taken = subst (λ (b : Bool). TakesNext c.items.entries c.items.loaded (Ok b) c.take_next.new.entries c.take_next.new.loaded)
    c.if-branch.true c.in_ok-take_next.ensures.takes in (
      answered_taken _ _ _ c.items.loaded c.take_next.new.loaded c.items.invariant.0 c.take_next.ensures.same taken,
      limits_taken _ _ c.items.loaded c.take_next.new.loaded taken ∙ c.items.invariant.1,
    )

pub returns-in_err-take_next : goal.returns-in_err-take_next
returns-in_err-take_next g c =
    let exit = err_from_is_err_and c.from_residual.result c.from_residual.ensures.1 in
    let start = c.args.entries.now in
    let fault = c.in_err-take_next.field-0.0 in
    let now = c.take_next.new.entries in
    rw (exit.1, exit.2)
    (subst (λ (limits : Limits). LoadsItems limits start.library (told_items start.stream) start.stream.faults now.stream.faults (Err fault))
    c.items.invariant.1
    (loads_in_part start c.items.entries now c.items.loaded c.take_next.new.loaded fault
    c.requires.loader c.items.invariant.0 c.take_next.ensures.faults c.in_err-take_next.ensures.takes))
