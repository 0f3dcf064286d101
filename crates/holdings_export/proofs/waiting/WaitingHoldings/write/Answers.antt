use Rattle.std.proofs.Common.{◌∙◌, ◌+◌, ◌++◌, ap, sym, arith, drop, ℕ, List}
use Rattle.std.specs.Borrow.{Bor}
use Rattle.std.specs.List.{flat_map}
use Rattle.outside.proofs.Fronts.{writing_more, writing_failed, piece_next}
use Rattle.holdings.specs.Shelves.{ShelvedHolding}
use Rattle.holdings_export.proofs.waiting.WaitingHoldings.write.Goals as goal

-- the written form of a holding that is lent
abbrev form : Bor ShelvedHolding → List ℕ
form held = held.now.written

pub returns-in_err-write_all-clause-front : goal.returns-in_err-write_all-clause-front
returns-in_err-write_all-clause-front g c =
    let held = c.deref-held-items.result.now in
    let next = piece_next form held c.loop-held.held-index c.held-item.result (omega arith) c.held-item.is in
    writing_failed _ _ _ _ _ _ _ c.loop-held.invariant.writing
    (next ∙ ap (λ bytes. bytes ++ flat_map form (drop (c.loop-held.held-index + 1) held)) (sym c.written.ensures))
    c.in_err-write_all.ensures.front

pub loop-held-preserved : goal.loop-held-preserved
loop-held-preserved g c =
    let held = c.deref-held-items.result.now in
    let next = piece_next form held c.loop-held.held-index c.held-item.result (omega arith) c.held-item.is in
    record {
      writing = writing_more _ _ _ _ _ _ _ c.loop-held.invariant.writing
          (next ∙ ap (λ bytes. bytes ++ flat_map form (drop (c.loop-held.held-index + 1) held)) (sym c.written.ensures))
          c.in_ok-write_all.ensures.bytes;
      later = omega (arith, c.in_ok-write_all.ensures.cause.later);
    }
