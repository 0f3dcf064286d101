use Rattle.catalogue_rules.proofs.States.{every_state_valid}
use Rattle.catalogue_rules.proofs.laws.every_state_is_valid.Goals as goal

pub returns : goal.returns
returns c = every_state_valid c.args.history.now c.requires
