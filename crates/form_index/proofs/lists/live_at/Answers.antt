use Rattle.std.proofs.Common.{◌∙◌, sym, ap}
use Rattle.form_index.specs.Listed.{no_list}
use Rattle.form_index.proofs.Paging.{flat_none, flat_some}
use Rattle.form_index.proofs.lists.live_at.Goals as goal

pub returns-in-Some : goal.returns-in-Some
returns-in-Some c = c.live.ensures ∙ ap (λ l. l.live) (sym (flat_some no_list c.args.lists.now c.args.form c.in-Some.list.now (sym c.in-Some.ensures)))

pub returns-in-None : goal.returns-in-None
returns-in-None c = ap (λ l. l.live) (sym (flat_none no_list c.args.lists.now c.args.form (sym c.in-None.ensures)))
