use Rattle.std.proofs.Common.{arith}
use Rattle.worklist_page.specs.Headings.{heading_row}
use Rattle.worklist_page.proofs.Rows.{more_rows, next_seen, seen_past}
use Rattle.worklist_page.proofs.headings.add_headings.Goals as goal

pub loop-heading-preserved : goal.loop-heading-preserved
loop-heading-preserved c =
    more_rows (heading_row c.args.engine.now.state) _ _ _ _ _ _ _ c.loop-heading.invariant
    (next_seen (λ r. r.now) c.args.found.now c.loop-heading.heading-index c.heading-item.result (omega arith) c.heading-item.is) c.in_ok-add_heading.ensures

pub returns : goal.returns
returns c =
    seen_past (heading_row c.args.engine.now.state) (λ r. r.now) c.args.found.now c.loop-heading.heading-index _ _ c.loop-heading.invariant
    (omega (arith, c.loop-heading-test.false))
