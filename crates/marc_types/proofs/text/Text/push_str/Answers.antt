use Rattle.std.proofs.Common.{IsUtf8, ap, sym, subst, ◌∙◌}
use Rattle.std.proofs.lemmas.Str.{IsUtf8-string_bytes}
use Rattle.marc_types.specs.Texts.{text_bytes}
use Rattle.marc_types.proofs.text.Text.push_str.Goals as goal

pub returns-in_err-push_str-in-Apart-clause-utf8 : goal.returns-in_err-push_str-in-Apart-clause-utf8
returns-in_err-push_str-in-Apart-clause-utf8 c =
    subst IsUtf8 (ap text_bytes (sym c.in-Apart.is) ∙ c.self.view_is) (IsUtf8-string_bytes c.in-Apart.string)

pub returns-in_ok-push_str-in-Apart-clause-utf8 : goal.returns-in_ok-push_str-in-Apart-clause-utf8
returns-in_ok-push_str-in-Apart-clause-utf8 c =
    subst IsUtf8 (ap text_bytes (sym c.in-Apart.is) ∙ c.self.view_is) (IsUtf8-string_bytes c.in-Apart.string)
