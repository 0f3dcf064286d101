use Rattle.std.proofs.Common.{◌∙◌, refl, sym}
use Rattle.marc_types.specs.Order.{same_form}
use Rattle.numbering.proofs.Numberlaws.{keeps_itself}
use Rattle.catalogue_tables.proofs.Brought.{follows_entry}
use Rattle.catalogue_tables.proofs.tables.CatalogueTables.put_entry.Goals as goal

pub returns-then-is_deletion-clause-only : goal.returns-then-is_deletion-clause-only
returns-then-is_deletion-clause-only c = record { forms = keeps_itself same_form c.args.self.now.forms; waits = refl; links = refl; ordered = c.requires.ordered }

pub returns-in_default-clause-only : goal.returns-in_default-clause-only
returns-in_default-clause-only c = record { forms = keeps_itself same_form c.args.self.now.forms; waits = refl; links = refl; ordered = c.requires.ordered }

pub returns-clause-ok : goal.returns-clause-ok
returns-clause-ok c =
    follows_entry c.put_authority.new.self.forms c.args.number c.args.item.now c.in-Some.established.now c.as_slice.result.now c.has_bare_heading.result c.args.self.now.index
    c.put_authority.new.self.index c.requires.class (sym c.is_deletion.ensures ∙ c.if-is_deletion.false) c.in-Some.ensures (c.as_slice.ensures ∙ c.see_from.ensures)
    c.has_bare_heading.ensures c.in_ok-put_authority.ensures.ok
