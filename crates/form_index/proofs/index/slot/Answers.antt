use Rattle.std.proofs.Common.{◌∙◌, sym, None}
use Rattle.form_index.proofs.Paging.{flat_none, flat_some}
use Rattle.form_index.proofs.index.slot.Goals as goal

pub returns-in-Some : goal.returns-in-Some
returns-in-Some c = c.as_ref.ensures.value ∙ sym (flat_some None c.args.rows.now c.args.number c.in-Some.slot.now (sym c.in-Some.ensures))

pub returns-in-None : goal.returns-in-None
returns-in-None c = sym (flat_none None c.args.rows.now c.args.number (sym c.in-None.ensures))
