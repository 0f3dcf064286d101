use Rattle.std.proofs.Common.{◌≡◌, ◌&&◌, subst}
use Rattle.marc_types.specs.declared.key.Class.{Class}
use Rattle.marc_types.specs.Fields.{subfields_of, tag_of}
use Rattle.heading_fields.specs.Parts.{is_subdivided}
use Rattle.heading_fields.specs.Tables.{is_subdividable}
use Rattle.linked_store.specs.Lending.{both_or_base, forms_lent}
use Rattle.linked_store.proofs.Lent.{both_lent}
use Rattle.linked_store.proofs.lending.lent_forms.Goals as goal

pub returns : goal.returns
returns c =
    both_lent c.args.item.now.class c.args.field.now c.base_at.result c.full_at.result c.in-Some.base c.in-Some-full_at.full c.base_or_both.result c.in-Some.is c.in-Some-full_at.is
    c.base_at.ensures c.full_at.ensures
    (subst (λ (k : Class). forms_lent c.base_or_both.result
    ≡ both_or_base (is_subdividable k (tag_of c.args.field.now) && is_subdivided (subfields_of c.args.field.now)) c.in-Some-full_at.full.now c.in-Some.base.now) c.class.ensures
    c.base_or_both.ensures)
