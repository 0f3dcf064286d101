use Rattle.iso2709_record.specs.Written.{field_bytes}
use Rattle.outside.proofs.Fronts.{writing_more, writing_failed, piece_next}
use Rattle.std.proofs.Common.{◌∙◌, arith}
use Rattle.iso2709_record.proofs.fields.write_fields.Goals as goal

pub returns-in_err-write_field-clause-front : goal.returns-in_err-write_field-clause-front
returns-in_err-write_field-clause-front g c =
    writing_failed _ _ _ _ _ _ _ c.loop-field.invariant.writing
    (piece_next field_bytes c.args.fields.now c.loop-field.field-index _ (omega arith) c.field-item.is) c.write_field.ensures.front

pub loop-field-preserved : goal.loop-field-preserved
loop-field-preserved g c = record {
  writing = writing_more _ _ _ _ _ _ _ c.loop-field.invariant.writing
      (piece_next field_bytes c.args.fields.now c.loop-field.field-index _ (omega arith) c.field-item.is) c.in_ok-write_field.ensures.bytes;
  tells = c.in_ok-write_field.ensures.tells ∙ c.loop-field.invariant.tells;
  later = omega arith;
}
