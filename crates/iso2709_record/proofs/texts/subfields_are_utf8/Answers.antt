use Rattle.std.proofs.Common.{◌∙◌, length, get_or, ap, subst, arith}
use Rattle.std.specs.List.{All}
use Rattle.std.proofs.lemmas.List.{take_all}
use Rattle.std.proofs.lemmas.List.Elements.{All-more}
use Rattle.iso2709_record.specs.Texts.{HasUtf8Text}
use Rattle.iso2709_record.proofs.texts.subfields_are_utf8.Goals as goal

pub loop-subfield-preserved : goal.loop-subfield-preserved
loop-subfield-preserved c =
    let same = c.as_slice-subfield-items.ensures in
    let is = c.subfield-item.is ∙ ap (λ items. get_or items c.loop-subfield.subfield-index c.subfield-item.result) same in
    All-more HasUtf8Text c.args.subs.now c.loop-subfield.subfield-index c.subfield-item.result (omega (arith, ap length same)) c.loop-subfield.invariant
    (subst HasUtf8Text is c.text_is_utf8.ensures)

pub returns : goal.returns
returns c =
    subst (All HasUtf8Text) (take_all c.loop-subfield.subfield-index c.args.subs.now (omega (arith, ap length c.as_slice-subfield-items.ensures))) c.loop-subfield.invariant
