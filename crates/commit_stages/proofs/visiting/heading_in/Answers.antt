use Rattle.std.proofs.Common.{◌∙◌, sym}
use Rattle.std.proofs.lemmas.Result.{IfOk-weaker}
use Rattle.commit_stages.proofs.Finding.{finds_it, finds_plain}
use Rattle.commit_stages.proofs.visiting.heading_in.Goals as goal

pub returns-then-not-has_heading_tag : goal.returns-then-not-has_heading_tag
returns-then-not-has_heading_tag c = finds_plain c.args.class _ (sym c.has_heading_tag.ensures ∙ c.if-not-has_heading_tag.true)

pub returns : goal.returns
returns c = IfOk-weaker c.found_at.result _ _ (λ found same. finds_it c.args.class _ _ same) c.found_at.ensures
