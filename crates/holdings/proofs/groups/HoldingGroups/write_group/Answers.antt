use Rattle.std.proofs.Common.{◌≡◌, ◌∙◌, ◌+◌, ◌++◌, ap, sym, arith, drop, subst}
use Rattle.std.specs.List.{flat_map}
use Rattle.outside.specs.Sink.{WritesFront}
use Rattle.outside.proofs.Fronts.{writing_more, writing_failed, piece_next}
use Rattle.holdings.specs.Shelves.{written_holding}
use Rattle.holdings.proofs.groups.HoldingGroups.write_group.Goals as goal

pub returns-in_err-write_all-clause-front : goal.returns-in_err-write_all-clause-front
returns-in_err-write_all-clause-front g c =
    let rows = c.group-row-items.result.now in
    let piece : c.written.result.now ≡ written_holding c.row-item.result = c.written.ensures ∙ ap written_holding c.row.view_is in
    subst (λ group. WritesFront (g.K.Sink.written c.args.out.now) (g.K.Sink.written c.write_all.new.self) (flat_map written_holding group)) c.group-row-items.ensures
    (writing_failed _ _ _ _ _ _ _ c.loop-row.invariant.writing
    (piece_next written_holding rows c.loop-row.row-index c.row-item.result (omega arith) c.row-item.is
    ∙ ap (λ bytes. bytes ++ flat_map written_holding (drop (c.loop-row.row-index + 1) rows)) (sym piece))
    c.in_err-write_all.ensures.front)

pub loop-row-preserved : goal.loop-row-preserved
loop-row-preserved g c =
    let rows = c.group-row-items.result.now in
    let piece : c.written.result.now ≡ written_holding c.row-item.result = c.written.ensures ∙ ap written_holding c.row.view_is in
    record {
      writing = writing_more _ _ _ _ _ _ _ c.loop-row.invariant.writing
          (piece_next written_holding rows c.loop-row.row-index c.row-item.result (omega arith) c.row-item.is
          ∙ ap (λ bytes. bytes ++ flat_map written_holding (drop (c.loop-row.row-index + 1) rows)) (sym piece))
          c.in_ok-write_all.ensures.bytes;
      later = omega (arith, c.in_ok-write_all.ensures.cause.later);
    }
