use Rattle.std.proofs.Common.{◌∙◌, sym, ap, arith, get_or}
use Rattle.kept_rows.proofs.Places.{unread}
use Rattle.kept_rows.proofs.sound.unread_reach.Goals as goal

pub returns-then-suits_field : goal.returns-then-suits_field
returns-then-suits_field c =
    unread c.args.row.now.class c.args.row.now.rec.fields c.args.row.now.ties c.args.place c.args.tag.now c.index-as_slice-place.result _ c.requires.tag c.requires.other
    (omega (arith, c.requires.within, c.args.row.now.tied)) (c.index-as_slice-place.is ∙ ap (λ l. get_or l c.args.place c.index-as_slice-place.result) c.as_slice.ensures)
    (sym c.suits_field.ensures ∙ c.if-suits_field.true) c.written_len.result (λ yes. c.written_len.ensures)

pub returns-else-suits_field : goal.returns-else-suits_field
returns-else-suits_field c =
    unread c.args.row.now.class c.args.row.now.rec.fields c.args.row.now.ties c.args.place c.args.tag.now c.index-as_slice-place.result _ c.requires.tag c.requires.other
    (omega (arith, c.requires.within, c.args.row.now.tied)) (c.index-as_slice-place.is ∙ ap (λ l. get_or l c.args.place c.index-as_slice-place.result) c.as_slice.ensures)
    (sym c.suits_field.ensures ∙ c.if-suits_field.false) 0 (λ yes f e. cc)
