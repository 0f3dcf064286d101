use Rattle.std.proofs.Common.{◌∙◌, sym}
use Rattle.kept_rows.proofs.Places.{heading_told, other_told}
use Rattle.kept_rows.proofs.sound.sound_reach.Goals as goal

pub returns-in-Some : goal.returns-in-Some
returns-in-Some c =
    heading_told c.args.class c.args.field.now c.args.tie.now c.tag.result.now c.in_ok-kind.kind c.is_some.result c.in-Some.kind c.heading_reach.result
    c.tag.ensures c.in_ok-kind.ensures c.is_some.ensures (sym c.suits_field.ensures ∙ c.if-not-suits_field.false) c.in-Some.is c.heading_reach.ensures

pub returns-in-None : goal.returns-in-None
returns-in-None c =
    other_told c.args.class c.args.field.now c.args.tie.now c.tag.result.now c.in_ok-kind.kind c.is_some.result c.field_len.result
    c.tag.ensures c.in_ok-kind.ensures c.is_some.ensures (sym c.suits_field.ensures ∙ c.if-not-suits_field.false) c.in-None.is c.field_len.ensures
