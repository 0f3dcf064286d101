use Rattle.std.proofs.Common.{◌∙◌, ap, arith, fold, map}
use Rattle.std.proofs.lemmas.List.{take_all}
use Rattle.catalogue_rules.specs.State.{linkable_authorities}
use Rattle.numbered_store.specs.Kept.{kept_record}
use Rattle.worklist_page.specs.Figures.{mark_of, with_mark}
use Rattle.worklist_page.proofs.Marks.{one_more}
use Rattle.worklist_page.proofs.figures.Figures.add_record.Goals as goal

pub loop-place-preserved : goal.loop-place-preserved
loop-place-preserved c =
    one_more with_mark (mark_of (linkable_authorities c.args.engine.now.state) c.args.class c.args.key.now) (kept_record c.args.kept.now).fields c.loop-place.place _ _ _
    c.loop-place.invariant c.in_ok-add_place.ensures

pub returns : goal.returns
returns c =
    c.loop-place.invariant
    ∙ ap (λ l. fold with_mark c.args.self.now (map (mark_of (linkable_authorities c.args.engine.now.state) c.args.class c.args.key.now) l))
    (take_all c.loop-place.place (kept_record c.args.kept.now).fields (omega (arith, c.loop-place-test.false, c.field_count-places.ensures)))
