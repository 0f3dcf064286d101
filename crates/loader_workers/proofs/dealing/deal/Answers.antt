use Rattle.std.proofs.Common.{rules}
use Rattle.loader_workers.proofs.Tasks.{none_left, dealt_none, dealt_one, dealt_all}
use Rattle.loader_workers.proofs.dealing.deal.Goals as goal

pub loop-file-init : goal.loop-file-init
loop-file-init g c = (
  dealt_none _ _ _ _ _ _ c.requires.none (search rules) (search rules) (search rules),
  search rules,
  search rules,
  search rules,
)

pub loop-file-preserved : goal.loop-file-preserved
loop-file-preserved g c = (
  dealt_one _ _ _ _ _ _ _ _ _ c.in-Some-next.pass c.in-Some.file c.loop-file.invariant.0 c.in-Some-next.ensures.items c.in-Some.ensures.items
      (search rules) (search rules),
  search rules,
  search rules,
  search rules,
)

pub returns : goal.returns
returns g c = dealt_all _ _ _ _ _ c.loop-file.invariant.0 (none_left _ _ c.loop-file.files.rest.ok.0 (search rules))
