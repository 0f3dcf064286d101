use Rattle.std.proofs.Common.{◌∙◌, ap}
use Rattle.catalogue_core.specs.Catalogues.{Catalogued}
use Rattle.plain_commands.specs.Passing.{exported, export_due}
use Rattle.plain_commands.proofs.Passes.{delivered_nothing}
use Rattle.plain_commands.proofs.passing.deliver_export.Goals as goal

pub returns-in-Ok-clause-fault : goal.returns-in-Ok-clause-fault
returns-in-Ok-clause-fault g c why is = absurd (c.deliver.ensures.no_fault why is)

pub returns-in-Ok-clause-delivered : goal.returns-in-Ok-clause-delivered
returns-in-Ok-clause-delivered g c limits library bytes tells is =
    c.deliver.ensures.delivered limits export_due library bytes tells is (c.in-Ok.ensures ∙ ap (λ (core : Catalogued). exported core.history) c.core.ensures)

-- memory ran out over the export
pub returns-in-Err-clause-delivered : goal.returns-in-Err-clause-delivered
returns-in-Err-clause-delivered g c limits library bytes tells is = delivered_nothing limits _ _ _ _ _ _ c.tell.ensures.end
