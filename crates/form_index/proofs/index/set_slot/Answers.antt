use Rattle.std.proofs.Common.{◌∙◌, ◌==◌, ap}
use Rattle.std.specs.Prelude.{if◌then◌else◌}
use Rattle.form_index.specs.Index.{rows_in, slot_at}
use Rattle.form_index.proofs.Indexing.{slots_with}
use Rattle.form_index.proofs.Paging.{stays_there}
use Rattle.form_index.proofs.index.set_slot.Goals as goal

pub returns-clause-slots : goal.returns-clause-slots
returns-clause-slots c n =
    slots_with c.args.rows.now c.args.number c.replace-before.new.dest c.requires n
    ∙ ap (λ slot. if n == c.args.number then slot else slot_at (rows_in c.args.rows.now) n) c.replace-before.ensures.after

pub returns-clause-stays : goal.returns-clause-stays
returns-clause-stays c = stays_there c.args.rows.now c.args.number c.replace-before.new.dest
