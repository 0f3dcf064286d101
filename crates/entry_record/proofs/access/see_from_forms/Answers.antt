use Rattle.std.proofs.Common.{◌∙◌}
use Rattle.entry_record.proofs.Accessible.{see_from_none}
use Rattle.entry_record.proofs.access.see_from_forms.Goals as goal

pub loop-field-init : goal.loop-field-init
loop-field-init c = c.new-forms.ensures.items ∙ see_from_none c.args.kind
