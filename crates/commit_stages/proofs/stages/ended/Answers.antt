use Rattle.commit_stages.proofs.Parts.{key_valid}
use Rattle.commit_stages.proofs.stages.ended.Goals as goal

pub returns-clause-valid : goal.returns-clause-valid
returns-clause-valid c = key_valid c.args.item.now c.requires.admitted
