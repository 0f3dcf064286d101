use Rattle.std.proofs.Common.{◌∙◌}
use Rattle.iso2709_record.proofs.FieldData.{control_area}
use Rattle.iso2709_record.proofs.field_data.control_field.Goals as goal

pub as_text-requires : goal.as_text-requires
as_text-requires c = (control_area _ _ c.requires.control c.requires.spelled).utf8

pub returns : goal.returns
returns c = rw (c.in_ok-text.ensures ∙ c.as_text.ensures) (control_area _ _ c.requires.control c.requires.spelled).field
