use Rattle.std.proofs.Common.{◌≡◌, ◌∙◌, ap, refl, ◌/◌, Some, slice_get, unwrap_or, is_some}
use Rattle.std.proofs.lemmas.Option.{slice_get_read}
use Rattle.std.proofs.lemmas.Result.{on_ok_weaker}
use Rattle.numbering.proofs.Pagelaws.{same_put, stays_put, whole_put}
use Rattle.numbering.proofs.pages.Pages.reach.Goals as goal

pub returns-clause-same : goal.returns-clause-same
returns-clause-same g c m =
    let old = c.lengthen.new.self in
    let page = c.index_mut.result.now in
    let e : slice_get old.pages.items (c.args.n / 1024) ≡ Some page = slice_get_read old.pages.items _ (c.args.n / 1024) page refl c.in_ok-lengthen.ensures.long c.index_mut.ensures.value in
    same_put old c.args.n page e c.fill.new.page m g.T.Blank.blank c.fill.ensures.same ∙ ap (λ o. unwrap_or o g.T.Blank.blank) (c.lengthen.ensures.same m)

pub returns-clause-stays : goal.returns-clause-stays
returns-clause-stays g c m h =
    let old = c.lengthen.new.self in
    let page = c.index_mut.result.now in
    let e : slice_get old.pages.items (c.args.n / 1024) ≡ Some page = slice_get_read old.pages.items _ (c.args.n / 1024) page refl c.in_ok-lengthen.ensures.long c.index_mut.ensures.value in
    stays_put old c.args.n page e c.fill.new.page m c.fill.ensures.longer (ap (λ o. is_some o) (c.lengthen.ensures.same m) ∙ h)

pub returns-clause-there : goal.returns-clause-there
returns-clause-there g c =
    let old = c.lengthen.new.self in
    let page = c.index_mut.result.now in
    let e : slice_get old.pages.items (c.args.n / 1024) ≡ Some page = slice_get_read old.pages.items _ (c.args.n / 1024) page refl c.in_ok-lengthen.ensures.long c.index_mut.ensures.value in
    on_ok_weaker c.fill.result (λ whole. whole_put old c.args.n page e c.fill.new.page whole) c.fill.ensures.whole
