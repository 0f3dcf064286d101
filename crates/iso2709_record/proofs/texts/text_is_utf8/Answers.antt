use Rattle.std.proofs.Common.{subst, IsUtf8}
use Rattle.iso2709_record.proofs.texts.text_is_utf8.Goals as goal

pub returns : goal.returns
returns c = subst IsUtf8 c.as_str-text.ensures c.as_str-text.utf8
