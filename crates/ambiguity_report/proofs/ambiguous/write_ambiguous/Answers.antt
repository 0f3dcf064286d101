use Rattle.std.proofs.Common.{◌∙◌, ap, arith, map}
use Rattle.catalogue_rules.specs.State.{linkable_authorities, rows_of}
use Rattle.outside.proofs.Fronts.{writing_more, writing_failed}
use Rattle.numbered_store.specs.Kept.{kept_record, shown_row}
use Rattle.ambiguity_report.proofs.Counting.{counting_more}
use Rattle.ambiguity_report.proofs.Fields.{ambiguous_next}
use Rattle.ambiguity_report.proofs.ambiguous.write_ambiguous.Goals as goal

pub returns-in_err-write_record-clause-front : goal.returns-in_err-write_record-clause-front
returns-in_err-write_record-clause-front g c =
    let all = linkable_authorities c.args.engine.now.state in
    let next = ap (map shown_row) c.in-Some.ensures.steps in
    writing_failed _ _ _ _ _ _ _ c.loop-key.invariant.writing
    (ambiguous_next all c.args.class (map shown_row c.loop-key.key-iterator) (map shown_row c.next.new.self) c.in-Some.key.now.now (kept_record c.in-Some.kept.now.now) c.deref.result.now next
    (c.deref.ensures.value ∙ c.in-Ok.ensures))
    c.write_record.ensures.front

pub loop-key-preserved : goal.loop-key-preserved
loop-key-preserved g c =
    let all = linkable_authorities c.args.engine.now.state in
    let r = kept_record c.in-Some.kept.now.now in
    let next = ap (map shown_row) c.in-Some.ensures.steps in
    record {
      writing = writing_more _ _ _ _ _ _ _ c.loop-key.invariant.writing
          (ambiguous_next all c.args.class (map shown_row c.loop-key.key-iterator) (map shown_row c.next.new.self) c.in-Some.key.now.now r c.deref.result.now next
          (c.deref.ensures.value ∙ c.in-Ok.ensures))
          c.in_ok-write_record.ensures.bytes;
      counting = counting_more all c.args.class (rows_of c.args.class c.args.engine.now.state) (map shown_row c.loop-key.key-iterator) (map shown_row c.next.new.self)
          c.in-Some.key.now.now r c.deref-in-loop-key.result.now c.loop-key.totals c.with_record-totals.result c.loop-key.invariant.counting next
          (c.deref-in-loop-key.ensures.value ∙ c.in-Ok.ensures) c.with_record-totals.ensures;
      tells = c.in_ok-write_record.ensures.tells ∙ c.loop-key.invariant.tells;
      later = omega (arith, c.in_ok-write_record.ensures.cause.later);
    }
