use Rattle.std.proofs.Common.{◌∙◌, ap, arith, map}
use Rattle.std.proofs.lemmas.List.{take_all}
use Rattle.catalogue_rules.specs.State.{linkable_authorities}
use Rattle.catalogue_tables.specs.Stands.{field_standing}
use Rattle.numbered_store.specs.Kept.{kept_record}
use Rattle.ambiguity_report.proofs.Fields.{one_more}
use Rattle.ambiguity_report.proofs.standings.standings.Goals as goal

pub loop-place-preserved : goal.loop-place-preserved
loop-place-preserved c =
    one_more (field_standing (linkable_authorities c.args.engine.now.state) c.args.class) (kept_record c.args.kept.now).fields c.loop-place.place _ _ c.loop-place.invariant c.in_ok-push_standing.ensures

pub returns : goal.returns
returns c =
    c.loop-place.invariant
    ∙ ap (map (field_standing (linkable_authorities c.args.engine.now.state) c.args.class)) (take_all c.loop-place.place (kept_record c.args.kept.now).fields (omega (arith, c.loop-place-test.false, c.field_count-places.ensures)))
