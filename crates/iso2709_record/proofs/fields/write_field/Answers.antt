use Rattle.std.proofs.Common.{◌∷◌, []}
use Rattle.iso2709_record.specs.Written.{field_bytes, field_data, field_terminator}
use Rattle.outside.proofs.Fronts.{front_more, front_then}
use Rattle.iso2709_record.proofs.fields.write_field.Goals as goal

pub returns-in_err-write_field_data-clause-front : goal.returns-in_err-write_field_data-clause-front
unfolding field_bytes
returns-in_err-write_field_data-clause-front g c =
    front_more _ _ (field_data c.args.field.now) (field_terminator ∷ []) c.write_field_data.ensures.front

pub returns-clause-front : goal.returns-clause-front
unfolding field_bytes
returns-clause-front g c =
    front_then _ _ _ (field_data c.args.field.now) (field_terminator ∷ []) c.in_ok-write_field_data.ensures.bytes c.write_all.ensures.front
