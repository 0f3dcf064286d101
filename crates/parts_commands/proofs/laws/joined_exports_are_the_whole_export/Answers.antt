use Rattle.parts_commands.proofs.Exported.{due_of_whole}
use Rattle.parts_commands.proofs.Followed.{none_unlike}
use Rattle.parts_commands.proofs.laws.joined_exports_are_the_whole_export.Goals as goal

pub returns-clause-whole : goal.returns-clause-whole
returns-clause-whole c = due_of_whole

pub returns-clause-joined : goal.returns-clause-joined
returns-clause-joined c = none_unlike
