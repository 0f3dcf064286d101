use Rattle.std.proofs.Common.{◌≡◌, ◌∙◌, get_or, ap, arith}
use Rattle.std.proofs.lemmas.List.{get_or-take}
use Rattle.iso2709_record.proofs.FieldData.{variable_area}
use Rattle.iso2709_record.proofs.field_data.variable_field.Goals as goal

pub split_at-requires : goal.split_at-requires
split_at-requires c = (variable_area _ _ c.requires.variable c.requires.spelled).long

pub as_text-requires : goal.as_text-requires
as_text-requires c = rw c.split_at.ensures.back (variable_area _ _ c.requires.variable c.requires.spelled).utf8

pub subfields_of-requires : goal.subfields_of-requires
subfields_of-requires c =
    rw (c.as_text.ensures ∙ c.split_at.ensures.back) (variable_area _ _ c.requires.variable c.requires.spelled).spelled

pub returns : goal.returns
returns c =
    let first : get_or c.split_at.result.0.now 0 0 ≡ get_or c.args.area.now 0 0 =
    ap (λ l. get_or l 0 0) c.split_at.ensures.front ∙ get_or-take 2 c.args.area.now 0 0 (omega arith) in
    let second : get_or c.split_at.result.0.now 1 0 ≡ get_or c.args.area.now 1 0 =
    ap (λ l. get_or l 1 0) c.split_at.ensures.front ∙ get_or-take 2 c.args.area.now 1 0 (omega arith) in
    rw (first, second)
    ((variable_area _ _ c.requires.variable c.requires.spelled).field _
    (rw (c.as_text.ensures ∙ c.split_at.ensures.back) at c.in_ok-subs.ensures))
