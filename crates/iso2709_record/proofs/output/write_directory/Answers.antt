use Rattle.std.proofs.Common.{ap, refl, ◌∙◌, arith}
use Rattle.marc_types.specs.Valid.{fields_size}
use Rattle.iso2709_record.specs.Written.{fields_length}
use Rattle.iso2709_record.proofs.Lengths.{fields_length_small}
use Rattle.outside.proofs.Fronts.{writing_begun, writing_more, writing_failed, drop_next}
use Rattle.iso2709_record.proofs.Places.{entry_is, entry_next}
use Rattle.iso2709_record.proofs.output.write_directory.Goals as goal

pub loop-field-init : goal.loop-field-init
loop-field-init g c = record {
  writing = writing_begun _ _;
  small = c.requires.small;
  start = omega (arith, fields_length_small c.args.fields.now c.requires.few c.requires.small);
  tells = refl;
  later = omega arith;
}

pub returns-in_err-write_all-clause-front : goal.returns-in_err-write_all-clause-front
returns-in_err-write_all-clause-front g c =
    writing_failed _ _ _ _ _ _ _ c.loop-field.invariant.writing
    (entry_next c.loop-field.start _ c.args.fields.now c.loop-field.field-index c.field-item.result (omega arith) c.field-item.is c.field_len-len.ensures)
    (rw (c.entry_block.ensures ∙ entry_is _ _ _ _ c.tag.ensures c.field_len-len.ensures) at c.write_all.ensures.front)

pub loop-field-preserved : goal.loop-field-preserved
loop-field-preserved g c =
    let next = drop_next c.args.fields.now c.loop-field.field-index c.field-item.result (omega arith) c.field-item.is in
    record {
      writing = writing_more _ _ _ _ _ _ _ c.loop-field.invariant.writing
          (entry_next c.loop-field.start _ c.args.fields.now c.loop-field.field-index c.field-item.result (omega arith) c.field-item.is c.field_len-len.ensures)
          (rw (c.entry_block.ensures ∙ entry_is _ _ _ _ c.tag.ensures c.field_len-len.ensures) at c.in_ok-write_all.ensures.bytes);
      small = omega (arith, ap fields_size next);
      start = omega (arith, ap fields_length next, c.field_len-len.ensures);
      tells = c.in_ok-write_all.ensures.tells ∙ c.loop-field.invariant.tells;
      later = omega arith;
    }
