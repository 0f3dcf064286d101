use Rattle.std.proofs.Common.{◌∙◌, arith}
use Rattle.worklist_page.specs.Headings.{same_heading}
use Rattle.worklist_page.proofs.Tops.{again_finding, begun_finding, end_finding, enough_finding, first_finding, seen_again}
use Rattle.worklist_page.proofs.headings.top_of.Goals.{in-None, in-Some+else-stands_again+then-len-eq-SHOWN}
use Rattle.worklist_page.proofs.headings.top_of.Goals as goal

pub loop-heading-init : goal.loop-heading-init
loop-heading-init c =
    begun_finding same_heading (λ r. r.now) 100 c.args.all.now.keys _ _ c.new-found.ensures.items
    (c.into_iter-heading-iterator.ensures.into_iter_gives ∙ c.iter-heading-items.ensures.rest)

pub loop-heading-preserved-then-stands_again : goal.loop-heading-preserved-then-stands_again
loop-heading-preserved-then-stands_again c =
    again_finding same_heading 100 _ _ _ _ _ c.loop-heading.invariant c.in-Some.ensures.steps
    (seen_again same_heading (λ r. r.now) _ _ c.in-Some.heading.now _ _ c.deref.ensures.value c.stands_again.ensures c.if-stands_again.true)

pub loop-heading-preserved : goal.loop-heading-preserved
loop-heading-preserved c =
    first_finding (λ r. r.now) same_heading 100 _ _ _ _ _ c.in-Some.heading c.loop-heading.invariant c.in-Some.ensures.steps
    (seen_again same_heading (λ r. r.now) _ _ c.in-Some.heading.now _ _ c.deref.ensures.value c.stands_again.ensures c.if-stands_again.false)
    (λ full. c.if-len-eq-SHOWN.false (omega (arith, c.len.ensures, full, c.loop-heading.found.ok)))
    c.in_ok-push.ensures.items

pub returns : goal.returns
returns c =
    elim c.match-next.branch [
      | in-None w ↦ end_finding same_heading 100 _ _ _ c.loop-heading.invariant w.in-None.ensures.steps.0
      | in-Some+else-stands_again+then-len-eq-SHOWN w ↦
          enough_finding (λ r. r.now) same_heading 100 _ _ _ _ _ c.loop-heading.invariant w.in-Some.ensures.steps
          (seen_again same_heading (λ r. r.now) _ _ w.in-Some.heading.now _ _ w.deref.ensures.value w.stands_again.ensures w.if-stands_again.false)
          (omega (arith, w.len.ensures, w.if-len-eq-SHOWN.true, c.loop-heading.found.ok))
    ]
