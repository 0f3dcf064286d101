use Rattle.std.specs.Prelude.{IfOk}
use Rattle.std.proofs.Common.{subst}
use Rattle.migrate_command.specs.Fronts.{ArePayloads}
use Rattle.migrate_command.proofs.front.payloads_behind.Goals as goal

pub returns : goal.returns
returns c = subst (λ es. IfOk c.payloads_of_all.result (λ payloads. ArePayloads es payloads.items)) c.behind.ensures c.payloads_of_all.ensures
