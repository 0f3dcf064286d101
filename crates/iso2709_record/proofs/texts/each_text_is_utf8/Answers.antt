use Rattle.std.proofs.Common.{◌∙◌, length, get_or, ap, subst, arith}
use Rattle.std.specs.List.{All}
use Rattle.std.proofs.lemmas.List.{take_all}
use Rattle.std.proofs.lemmas.List.Elements.{All-more}
use Rattle.iso2709_record.specs.Texts.{HasUtf8Texts}
use Rattle.iso2709_record.proofs.texts.each_text_is_utf8.Goals as goal

pub loop-field-preserved : goal.loop-field-preserved
loop-field-preserved c =
    let same = c.as_slice-field-items.ensures in
    let is = c.field-item.is ∙ ap (λ items. get_or items c.loop-field.field-index c.field-item.result) same in
    All-more HasUtf8Texts c.args.rec.now.fields c.loop-field.field-index c.field-item.result (omega (arith, ap length same)) c.loop-field.invariant
    (subst HasUtf8Texts is c.texts_are_utf8.ensures)

pub returns : goal.returns
returns c =
    subst (All HasUtf8Texts) (take_all c.loop-field.field-index c.args.rec.now.fields (omega (arith, ap length c.as_slice-field-items.ensures))) c.loop-field.invariant
