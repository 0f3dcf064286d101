use Rattle.std.proofs.Common.{rules, subst, IsUtf8, ◌∙◌}
use Rattle.std.proofs.lemmas.Str.{IsUtf8-had}
use Rattle.marc_types.proofs.ShortTexts.{joined}
use Rattle.marc_types.proofs.short_text.ShortText.push_str.Goals as goal

pub invariant_of-self : goal.invariant_of-self
invariant_of-self c = (
  search rules,
  ∣ joined _ _ _ _ _ (search rules) (c.copy_from_slice.ensures.after ∙ c.as_bytes.ensures.value) (IsUtf8-had _ c.self.invariant.1) c.utf8.text ∣₁,
)

pub returns-clause-utf8 : goal.returns-clause-utf8
returns-clause-utf8 c = subst IsUtf8 c.self.view_is (IsUtf8-had _ c.self.invariant.1)
