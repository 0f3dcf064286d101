use Rattle.std.proofs.Common.{sym, subst, IsUtf8}
use Rattle.marc_types.proofs.ShortTexts.{text_without_blanks}
use Rattle.marc_types.proofs.short_text.ShortText.without_blanks.Goals as goal

pub invariant_of-result : goal.invariant_of-result
invariant_of-result c = (
  c.fill-len.ensures.fits,
  ∣ rw c.fill-len.ensures.filled (text_without_blanks _ (subst IsUtf8 (sym c.as_bytes.ensures.value) c.as_str.utf8)) ∣₁,
)
