use Rattle.std.proofs.Common.{rules, subst, IsUtf8}
use Rattle.std.proofs.lemmas.List.{take_more_set}
use Rattle.std.proofs.lemmas.Str.{IsUtf8-had}
use Rattle.marc_types.proofs.ShortTexts.{grown}
use Rattle.marc_types.proofs.short_text.ShortText.push_ascii.Goals as goal

pub invariant_of-self : goal.invariant_of-self
invariant_of-self c = (
  search rules,
  ∣ grown _ _ c.args.byte (IsUtf8-had _ c.self.invariant.1) c.requires.ascii (take_more_set _ _ _ (search rules)) ∣₁,
)

pub returns-clause-utf8 : goal.returns-clause-utf8
returns-clause-utf8 c = subst IsUtf8 c.self.view_is (IsUtf8-had _ c.self.invariant.1)
