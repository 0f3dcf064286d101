use Rattle.std.proofs.Common.{IsUtf8, sym, subst}
use Rattle.marc_types.proofs.ShortTexts.{text_without_blanks}
use Rattle.marc_types.proofs.text.string_without_blanks.Goals as goal

pub from_utf8_unchecked-requires : goal.from_utf8_unchecked-requires
from_utf8_unchecked-requires c =
    rw c.in_ok-bytes.ensures (text_without_blanks _ (subst IsUtf8 (sym c.as_bytes.ensures.value) c.utf8.text))
