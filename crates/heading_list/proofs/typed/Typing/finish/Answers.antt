use Rattle.std.proofs.Common.{◌∙◌}
use Rattle.heading_list.proofs.Letters.{all_typed}
use Rattle.heading_list.proofs.typed.Typing.finish.Goals as goal

pub returns : goal.returns
returns c = c.from_vec.ensures ∙ c.in_ok-push.ensures.items ∙ all_typed c.let_go.new.self c.in_ok-let_go.ensures.let_go ∙ c.in_ok-let_go.ensures.end
