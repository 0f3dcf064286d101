use Rattle.std.proofs.Common.{sym, ap, ◌∙◌}
use Rattle.naco_form.proofs.AsciiLemmas.{listed, listed-some, listed-entry}
use Rattle.naco_form.proofs.table.ascii_entry_of.Goals as goal

pub returns-then-entry-eq-NOTHING : goal.returns-then-entry-eq-NOTHING
returns-then-entry-eq-NOTHING c = ap listed (sym c.if-entry-eq-NOTHING.true) ∙ listed-entry c.args.byte c.requires

pub returns-else-entry-eq-NOTHING : goal.returns-else-entry-eq-NOTHING
returns-else-entry-eq-NOTHING c = listed-some _ c.if-entry-eq-NOTHING.false ∙ listed-entry c.args.byte c.requires
