use Rattle.std.proofs.Common.{◌≡◌, take}
use Rattle.entry_record.specs.Authority.{see_from_forms}
use Rattle.entry_record.proofs.access.see_from_forms.Given as goal

abbrev pub invariant-loop-field : goal.invariant-loop-field
invariant-loop-field l = l.forms.items ≡ see_from_forms l.kind (take l.field-index l.fields)
