use Rattle.std.proofs.Common.{◌≡◌, ◌∙◌, ap, arith, map, subst, sym}
use Rattle.std.specs.List.{flat_map}
use Rattle.std.specs.Option.{option_copied}
use Rattle.outside.proofs.Fronts.{IsWriting, writing_begun, writing_more, writing_failed}
use Rattle.catalogue_rules.specs.State.{linkable_authorities}
use Rattle.catalogue_tables.specs.Sharing.{keys_crossing, shown_keys}
use Rattle.numbered_store.specs.Kept.{shown_row}
use Rattle.heading_worklist.specs.Csv.{line_bytes}
use Rattle.heading_worklist.specs.Counting.{kept_in}
use Rattle.heading_worklist.specs.Lines.{crossing_at, crossing_lines}
use Rattle.heading_worklist.proofs.Pieces.{row_next}
use Rattle.heading_worklist.proofs.writing.Lister.write_crossing_lines.Goals as goal

pub loop-key-init : goal.loop-key-init
loop-key-init g c =
    let keep = kept_in (option_copied c.args.self.now.code) in
    let s = c.args.self.now.engine.now.state in
    let begins = ap (map shown_row) c.into_iter-key-iterator.ensures.into_iter_gives.0 ∙ c.requires in
    record {
      writing = subst (IsWriting (g.K.Sink.written c.args.out.now) (g.K.Sink.written c.args.out.now) (flat_map line_bytes (crossing_lines keep s)))
          (ap (λ rows. flat_map line_bytes (flat_map (crossing_at keep s) rows)) (sym begins)) (writing_begun _ _);
      later = omega arith;
    }

pub returns-in_err-write_crossing-clause-front : goal.returns-in_err-write_crossing-clause-front
returns-in_err-write_crossing-clause-front g c =
    let s = c.args.self.now.engine.now.state in
    let others : shown_keys c.deref.result.now ≡ keys_crossing c.in-Some.key.now.now (linkable_authorities s) = ap shown_keys c.deref.ensures.value ∙ c.in-Ok.ensures in
    writing_failed _ _ _ _ _ _ _ c.loop-key.invariant.writing
    (row_next (crossing_at (kept_in (option_copied c.args.self.now.code)) s) c.loop-key.key-iterator c.next.new.self c.in-Some.key.now c.in-Some._kept.now c.in-Some.ensures.steps)
    (rw others at c.write_crossing.ensures.front)

pub loop-key-preserved : goal.loop-key-preserved
loop-key-preserved g c =
    let s = c.args.self.now.engine.now.state in
    let others : shown_keys c.deref.result.now ≡ keys_crossing c.in-Some.key.now.now (linkable_authorities s) = ap shown_keys c.deref.ensures.value ∙ c.in-Ok.ensures in
    record {
      writing = writing_more _ _ _ _ _ _ _ c.loop-key.invariant.writing
          (row_next (crossing_at (kept_in (option_copied c.args.self.now.code)) s) c.loop-key.key-iterator c.next.new.self c.in-Some.key.now c.in-Some._kept.now c.in-Some.ensures.steps)
          (rw others at c.in_ok-write_crossing.ensures.bytes);
      later = omega (arith, c.in_ok-write_crossing.ensures.cause.later);
    }
