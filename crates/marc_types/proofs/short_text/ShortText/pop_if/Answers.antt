use Rattle.std.proofs.Common.{rules, refl, ◌∙◌, sym, subst, IsUtf8}
use Rattle.std.proofs.lemmas.Str.{IsUtf8-had}
use Rattle.marc_types.proofs.ShortTexts.{cut}
use Rattle.marc_types.proofs.short_text.ShortText.pop_if.Goals as goal

pub returns-then-not-ends_with-clause-utf8 : goal.returns-then-not-ends_with-clause-utf8
returns-then-not-ends_with-clause-utf8 c = subst IsUtf8 c.self.view_is (IsUtf8-had _ c.self.invariant.1)

pub returns-clause-utf8 : goal.returns-clause-utf8
returns-clause-utf8 c =
    cut _ _ _ c.args.byte (search rules) (c.self.view_is ∙ sym c.as_bytes.ensures.value) (c.if-not-ends_with.ensures.ends refl) (IsUtf8-had _ c.self.invariant.1) c.requires

pub invariant_of-self : goal.invariant_of-self
invariant_of-self c = (search rules, ∣ returns-clause-utf8 c ∣₁)
