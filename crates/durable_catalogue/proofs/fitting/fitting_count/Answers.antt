use Rattle.std.proofs.Common.{◌≡◌, take, sym, subst, ◌∙◌, arith}
use Rattle.catalogue_core.specs.Catalogues.{all_entries}
use Rattle.entry_history.specs.Commits.{fitting}
use Rattle.durable_catalogue.proofs.Fits.{fitting_more, fitting_full, fitting_end}
use Rattle.durable_catalogue.proofs.fitting.fitting_count.Goals as goal

pub returns-then-passes_limits-clause-value : goal.returns-then-passes_limits-clause-value
returns-then-passes_limits-clause-value c =
    let loop = c.loop-item in
    let items = c.args.items.now in
    let before = all_entries c.args.core.now in
    let told = rw c.limits.ensures at c.passes_limits.ensures.value in
    let full = sym told ∙ c.if-passes_limits.true in
    subst (λ n. take n items ≡ fitting c.args.core.now.limits before items) (sym loop.invariant.0)
    (fitting_full c.args.core.now.limits before items loop.item-index loop.entries loop.bytes c.item-item.result c.loop-item-test.true c.item-item.is loop.invariant.1 full)

pub loop-item-preserved : goal.loop-item-preserved
loop-item-preserved c =
    let loop = c.loop-item in
    let told = rw c.limits.ensures at c.passes_limits.ensures.value in
    let room = sym told ∙ c.if-passes_limits.false in
    let more = fitting_more c.args.core.now.limits (all_entries c.args.core.now) c.args.items.now loop.item-index loop.entries loop.bytes c.item-item.result c.loop-item-test.true c.item-item.is loop.invariant.1 room in
    (omega arith, rw c.size-bytes.ensures.value more)

pub returns-clause-value : goal.returns-clause-value
returns-clause-value c =
    let loop = c.loop-item in
    let items = c.args.items.now in
    let before = all_entries c.args.core.now in
    subst (λ n. take n items ≡ fitting c.args.core.now.limits before items) (sym loop.invariant.0)
    (fitting_end c.args.core.now.limits before items loop.item-index loop.entries loop.bytes c.loop-item-test.false loop.invariant.1)
