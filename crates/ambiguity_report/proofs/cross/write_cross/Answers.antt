use Rattle.std.proofs.Common.{◌≡◌, refl, ap, map, subst, sym, ◌∙◌, arith}
use Rattle.std.specs.List.{flat_map}
use Rattle.catalogue_rules.specs.Output.{cross_lines}
use Rattle.catalogue_rules.specs.State.{linkable_authorities}
use Rattle.catalogue_tables.specs.Sharing.{keys_crossing, shown_keys}
use Rattle.outside.proofs.Fronts.{IsWriting, writing_begun, writing_more, writing_failed}
use Rattle.ambiguity_report.proofs.Scans.{cross_at, cross_by_rows, row_next}
use Rattle.ambiguity_report.proofs.cross.write_cross.Goals as goal
use Rattle.numbered_store.specs.Kept.{shown_row}

pub loop-key-init : goal.loop-key-init
loop-key-init g c =
    let all = linkable_authorities c.args.engine.now.state in
    let begins = ap (map shown_row) c.into_iter-key-iterator.ensures.into_iter_gives.0 ∙ c.requires in
    record {
      writing = subst (IsWriting (g.K.Sink.written c.args.out.now) (g.K.Sink.written c.args.out.now) (cross_lines all))
          (cross_by_rows c.args.engine.now.state c.stays_valid.ensures.authorities_ascend ∙ ap (flat_map (cross_at all)) (sym begins)) (writing_begun _ _);
      tells = refl;
      later = omega arith;
    }

pub returns-in_err-write_pairs-clause-front : goal.returns-in_err-write_pairs-clause-front
returns-in_err-write_pairs-clause-front g c =
    let all = linkable_authorities c.args.engine.now.state in
    let others : shown_keys c.deref.result.now ≡ keys_crossing c.in-Some.key.now.now all = ap shown_keys c.deref.ensures.value ∙ c.in-Ok.ensures in
    writing_failed _ _ _ _ _ _ _ c.loop-key.invariant.writing
    (row_next (cross_at all) c.loop-key.key-iterator c.next.new.self c.in-Some.key.now c.in-Some._kept.now c.in-Some.ensures.steps)
    (rw others at c.write_pairs.ensures.front)

pub loop-key-preserved : goal.loop-key-preserved
loop-key-preserved g c =
    let all = linkable_authorities c.args.engine.now.state in
    let others : shown_keys c.deref.result.now ≡ keys_crossing c.in-Some.key.now.now all = ap shown_keys c.deref.ensures.value ∙ c.in-Ok.ensures in
    record {
      writing = writing_more _ _ _ _ _ _ _ c.loop-key.invariant.writing
          (row_next (cross_at all) c.loop-key.key-iterator c.next.new.self c.in-Some.key.now c.in-Some._kept.now c.in-Some.ensures.steps)
          (rw others at c.in_ok-write_pairs.ensures.bytes);
      tells = c.in_ok-write_pairs.ensures.tells ∙ c.loop-key.invariant.tells;
      later = omega (arith, c.in_ok-write_pairs.ensures.cause.later);
    }
