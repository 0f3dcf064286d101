use Rattle.linking_laws.proofs.Turning.{turn_fits, drop_fits}
use Rattle.linking_laws.proofs.between.a_turn_leaves_a_record_that_fits.Goals as goal

pub returns-clause-stage : goal.returns-clause-stage
returns-clause-stage c = λ all change now m either p h stands r. turn_fits all change now p h r m either stands

pub returns-clause-dropping : goal.returns-clause-dropping
returns-clause-dropping c = λ d key successor done now p h m next r. drop_fits d key successor done now p h r m next
