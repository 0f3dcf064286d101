use Rattle.std.proofs.Common.{take}
use Rattle.std.specs.List.{All}
use Rattle.iso2709_record.specs.Texts.{HasUtf8Text}
use Rattle.iso2709_record.proofs.texts.subfields_are_utf8.Given as goal

abbrev pub invariant-loop-subfield : goal.invariant-loop-subfield
invariant-loop-subfield l = All HasUtf8Text (take l.subfield-index l.subs)
