use Rattle.std.proofs.Common.{◌∙◌}
use Rattle.numbering.proofs.Pagelaws.{there_more, there_same}
use Rattle.numbering.proofs.pages.Pages.lengthen.Goals as goal

pub loop-alloc-preserved : goal.loop-alloc-preserved
loop-alloc-preserved g c m = there_more c.loop-alloc.self _ c.new.result c.in_ok-push.ensures.items c.new.ensures.items m ∙ c.loop-alloc.invariant m

pub returns-in_err-push-clause-same : goal.returns-in_err-push-clause-same
returns-in_err-push-clause-same g c m = there_same c.loop-alloc.self _ c.in_err-push.ensures.items m ∙ c.loop-alloc.invariant m
