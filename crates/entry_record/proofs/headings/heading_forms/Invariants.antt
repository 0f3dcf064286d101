use Rattle.std.proofs.Common.{◌≡◌, map, take}
use Rattle.entry_record.specs.Headings.{heading_forms}
use Rattle.entry_record.proofs.headings.heading_forms.Given as goal

abbrev pub invariant-loop-field : goal.invariant-loop-field
invariant-loop-field l = l.headings.items ≡ map (heading_forms l.class) (take l.field-index l.fields)
