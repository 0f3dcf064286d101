use Rattle.std.proofs.Common.{◌∙◌, sym, ap}
use Rattle.form_index.specs.Listed.{list_at, lists_in}
use Rattle.form_index.proofs.Stepping.{lists_at}
use Rattle.form_index.proofs.lists.Lists.live.Goals as goal

pub returns : goal.returns
returns c =
    c.live_at.ensures ∙ sym (ap (λ l. l.live) (lists_at (lists_in c.self.inside.lists) c.args.form))
    ∙ ap (λ l. (list_at l c.args.form).live) c.self.view_is
