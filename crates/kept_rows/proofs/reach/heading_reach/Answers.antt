use Rattle.std.proofs.Common.{◌∙◌, arith, ap}
use Rattle.heading_fields.specs.Parts.{region}
use Rattle.marc_types.specs.Valid.{subfields_size}
use Rattle.catalogue_rules.specs.Valid.{other_subfields}
use Rattle.kept_rows.proofs.Outside.{measured}
use Rattle.kept_rows.proofs.reach.heading_reach.Goals as goal

pub overflow_sub-outside : goal.overflow_sub-outside
overflow_sub-outside c =
    let known = measured c.args.field.now c.if-tie.whole c.args.kind c.args.tie.now.key c.part_region.result.now c.part_len-part.result c.others_len.result
    c.requires (c.part_region.ensures ∙ ap (region c.if-tie.whole) c.subfields-subfields.ensures) c.part_len-part.ensures
    (c.others_len.ensures ∙ ap (λ xs. subfields_size (other_subfields c.args.tie.now.key xs)) c.subfields-subfields.ensures) in
    known.within

pub overflow_add-result-2 : goal.overflow_add-result-2
overflow_add-result-2 c =
    let known = measured c.args.field.now c.if-tie.whole c.args.kind c.args.tie.now.key c.part_region.result.now c.part_len-part.result c.others_len.result
    c.requires (c.part_region.ensures ∙ ap (region c.if-tie.whole) c.subfields-subfields.ensures) c.part_len-part.ensures
    (c.others_len.ensures ∙ ap (λ xs. subfields_size (other_subfields c.args.tie.now.key xs)) c.subfields-subfields.ensures) in
    omega (arith, known.within, known.small, c.max.ensures)

pub overflow_add-result-3 : goal.overflow_add-result-3
overflow_add-result-3 c =
    let known = measured c.args.field.now c.if-tie.whole c.args.kind c.args.tie.now.key c.part_region.result.now c.part_len-part.result c.others_len.result
    c.requires (c.part_region.ensures ∙ ap (region c.if-tie.whole) c.subfields-subfields.ensures) c.part_len-part.ensures
    (c.others_len.ensures ∙ ap (λ xs. subfields_size (other_subfields c.args.tie.now.key xs)) c.subfields-subfields.ensures) in
    omega (arith, known.within, known.small, c.max.ensures)
