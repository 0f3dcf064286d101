use Rattle.std.proofs.Common.{take}
use Rattle.std.specs.List.{All}
use Rattle.iso2709_record.specs.Texts.{HasUtf8Texts}
use Rattle.iso2709_record.proofs.texts.each_text_is_utf8.Given as goal

abbrev pub invariant-loop-field : goal.invariant-loop-field
invariant-loop-field l = All HasUtf8Texts (take l.field-index l.rec.fields)
