use Rattle.std.proofs.Common.{◌≡◌, ◌∙◌}
use Rattle.heading_rows.specs.Rows.{browse_row}
use Rattle.heading_rows.proofs.Ordered.{no_key}
use Rattle.heading_rows.proofs.Pages.{page_begins, page_goes_on, page_ends}
use Rattle.heading_rows.proofs.listing.rows_from.Goals as goal

pub loop-row-init : goal.loop-row-init
loop-row-init c =
    let form = c.args.from.now in
    let first = c.in_ok-first.first in
    let least : first ≡ browse_row form no_key = c.in_ok-first.ensures ∙ (λ i. browse_row form (record { code = c.new.ensures i; number = c.new-2.ensures i })) in
    rw (c.new-found.ensures.items, c.into_iter-row-iterator.ensures.into_iter_gives, c.take-row-items.ensures.count, c.take-row-items.ensures.source)
    (page_begins form c.args.rows.now.keys _ first c.args.most least (c.range.ensures.between tt))

pub loop-row-preserved : goal.loop-row-preserved
loop-row-preserved c =
    page_goes_on _ _ _ _ _ _ _ _ _ c.loop-row.invariant c.in-Some.ensures.steps.0 c.in-Some.ensures.steps.1 c.in_ok-unpacked.ensures c.in_ok-push.ensures.items

pub returns-clause-page : goal.returns-clause-page
returns-clause-page c = c.from_vec.ensures ∙ page_ends _ _ _ _ _ c.loop-row.invariant c.in-None.ensures.steps
