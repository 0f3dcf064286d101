use Rattle.std.proofs.Common.{refl, sym, ap, subst, ◌∙◌, arith}
use mathlib.Core.List.{IsPrefix}
use Rattle.browse_readers.specs.Browsing.{page_after}
use Rattle.browsing_commands.specs.Pages.{most_rows, ArePagesOf}
use Rattle.browsing_commands.proofs.Gathered.{page_more, page_last}
use Rattle.browsing_commands.proofs.gathering.pages_of.Goals as goal

pub loop-page-preserved-then-covers : goal.loop-page-preserved-then-covers
loop-page-preserved-then-covers g c =
    let next = c.if-next-page.true in
    let below = c.if-page-all.true in
    let all = c.taken-all.ensures in
    let few = c.if-len-lt-MOST_PAGES.true in
    let count = c.len.ensures in
    page_more _ _ _ _ _ _ _ c.loop-page.invariant (omega (arith, next)) (omega (arith, below, all)) (omega (arith, few, count))
    (subst (IsPrefix c.in-Some.field-0.of) (c.tell-whole.ensures.told ∙ sym (ap (λ w. w.taken) c.tell-whole.ensures.same)) (c.if-covers.ensures.covers refl))
    c.in-Some.field-0.is c.in_ok-push.ensures.items

pub returns : goal.returns
returns g c =
    subst (λ w. ArePagesOf c.args.least w.taken c.from_vec.result) c.tell-whole.ensures.same
    (page_last _ _ _ _ _ _ c.loop-page.invariant (c.in_ok-page.ensures ∙ ap (λ form. page_after c.tell-whole.new.self.taken form most_rows) c.first_form-first.ensures)
    (c.from_vec.ensures ∙ c.in_ok-push-2.ensures.items))
