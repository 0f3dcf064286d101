use Rattle.std.proofs.Common.{◌∙◌, sym, ap}
use Rattle.form_index.specs.Index.{row_under, rows_in}
use Rattle.form_index.proofs.Indexing.{slots_at}
use Rattle.form_index.proofs.index.FormIndex.row.Goals as goal

pub returns : goal.returns
returns c =
    c.slot.ensures ∙ sym (slots_at (rows_in c.self.inside.rows) c.args.number) ∙ ap (row_under c.args.number) c.self.view_is
