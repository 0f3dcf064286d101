use Rattle.std.proofs.Common.{◌∙◌, ap, arith, map}
use Rattle.std.proofs.lemmas.List.{take_all}
use Rattle.marc_types.specs.Fields.{tag_of}
use Rattle.catalogue_rules.specs.State.{KeptField}
use Rattle.numbered_store.specs.Kept.{kept_record}
use Rattle.ambiguity_report.proofs.Fields.{one_more}
use Rattle.ambiguity_report.proofs.beside.tags.Goals as goal

pub loop-place-preserved : goal.loop-place-preserved
loop-place-preserved c =
    one_more (λ (h : KeptField). tag_of h.field) (kept_record c.args.kept.now).fields c.loop-place.place _ _ c.loop-place.invariant c.in_ok-push_tag.ensures

pub returns : goal.returns
returns c =
    c.loop-place.invariant
    ∙ ap (map (λ (h : KeptField). tag_of h.field)) (take_all c.loop-place.place (kept_record c.args.kept.now).fields (omega (arith, c.loop-place-test.false, c.field_count-places.ensures)))
