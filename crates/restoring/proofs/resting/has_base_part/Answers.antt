use Rattle.std.proofs.Common.{◌∙◌, ap, false}
use Rattle.std.specs.List.{list_any}
use Rattle.heading_fields.specs.Parts.{is_part, region}
use Rattle.restoring.proofs.Rests.{has_part}
use Rattle.restoring.proofs.resting.has_base_part.Goals as goal

pub returns : goal.returns
returns c =
    has_part c.is_any_of.result c.args.kind c.args.field.now
    (c.is_any_of.ensures ∙ ap (list_any (is_part false c.args.kind)) (c.part_region.ensures ∙ ap (region false) c.subfields.ensures))
