use Rattle.iso2709_record.specs.Written.{subfield_bytes}
use Rattle.outside.proofs.Fronts.{writing_more, writing_failed, piece_next}
use Rattle.std.proofs.Common.{◌∙◌, arith}
use Rattle.iso2709_record.proofs.fields.write_subfields.Goals as goal

pub returns-in_err-write_subfield-clause-front : goal.returns-in_err-write_subfield-clause-front
returns-in_err-write_subfield-clause-front g c =
    writing_failed _ _ _ _ _ _ _ c.loop-subfield.invariant.writing
    (piece_next subfield_bytes c.args.subfields.now c.loop-subfield.subfield-index _ (omega arith) c.subfield-item.is) c.write_subfield.ensures.front

pub loop-subfield-preserved : goal.loop-subfield-preserved
loop-subfield-preserved g c = record {
  writing = writing_more _ _ _ _ _ _ _ c.loop-subfield.invariant.writing
      (piece_next subfield_bytes c.args.subfields.now c.loop-subfield.subfield-index _ (omega arith) c.subfield-item.is) c.in_ok-write_subfield.ensures.bytes;
  tells = c.in_ok-write_subfield.ensures.tells ∙ c.loop-subfield.invariant.tells;
  later = omega arith;
}
