use Rattle.std.proofs.Common.{ℕ, List, reverse, chars, encode_utf8_all, sym, ap, ◌∙◌}
use Rattle.std.proofs.lemmas.Str.{encodes-chars}
use Rattle.naco_form.specs.Comparison.{drop_first_comma, trim_end, without_last_comma}
use Rattle.naco_form.proofs.PenLemmas.{whole-nil}
use Rattle.naco_form.proofs.pen.Pen.finish.Goals as goal

pub returns : goal.returns
unfolding without_last_comma
returns c =
    let written : List ℕ = chars c.args.self.out in
    sym (encodes-chars _ c.trim_end.ensures.utf8)
    ∙ ap encode_utf8_all (c.trim_end.ensures.trimmed ∙ ap trim_end c.drop_last_comma.ensures ∙ ap (λ l. trim_end (reverse (drop_first_comma (reverse l)))) (sym (whole-nil c.args.self)))
