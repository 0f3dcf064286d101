use Rattle.std.proofs.Common.{◌∙◌, subst, arith}
use Rattle.std.specs.Io.KnownBytes.{Appends}
use Rattle.outside.specs.Sink.{WritesFront}
use Rattle.outside.proofs.Fronts.{IsWriting, writing_done, writing_more, writing_failed}
use Rattle.ambiguity_report.proofs.Fields.{beside_next, beside_none}
use Rattle.ambiguity_report.proofs.beside.write_fields.Goals as goal

pub returns-in_default-clause-bytes : goal.returns-in_default-clause-bytes
returns-in_default-clause-bytes g c =
    writing_done _ _ _
    (subst (IsWriting _ _ _) (beside_none (g.B.Beside.field_line c.args.class c.args.key.now) c.args.tags.now c.args.besides.now c.loop-place.place c.in_default.ensures.lookup.3)
    c.loop-place.invariant.writing)

pub returns-in_err-write_line-clause-front : goal.returns-in_err-write_line-clause-front
returns-in_err-write_line-clause-front g c =
    writing_failed _ _ _ _ _ _ _ c.loop-place.invariant.writing
    (beside_next (g.B.Beside.field_line c.args.class c.args.key.now) c.args.tags.now c.args.besides.now c.loop-place.place _ c.in-Some.beside.now
    (omega arith) c.in-Some.ensures.lookup.3.0 c.in-Some.ensures.lookup.1)
    (subst (WritesFront _ _) (c.deref.ensures.value ∙ c.in_ok-make_line.ensures) c.write_line.ensures.front)

pub loop-place-preserved : goal.loop-place-preserved
loop-place-preserved g c = record {
  writing = writing_more _ _ _ _ _ _ _ c.loop-place.invariant.writing
      (beside_next (g.B.Beside.field_line c.args.class c.args.key.now) c.args.tags.now c.args.besides.now c.loop-place.place _ c.in-Some.beside.now
      (omega arith) c.in-Some.ensures.lookup.3.0 c.in-Some.ensures.lookup.1)
      (subst (Appends _ _) (c.deref.ensures.value ∙ c.in_ok-make_line.ensures) c.in_ok-write_line.ensures.bytes);
  tells = c.in_ok-write_line.ensures.tells ∙ c.loop-place.invariant.tells;
  later = omega (arith, c.in_ok-write_line.ensures.cause.later);
}
