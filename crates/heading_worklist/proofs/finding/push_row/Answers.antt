use Rattle.std.proofs.Common.{◌∙◌, ap, arith, map, ◌++◌, List}
use Rattle.std.specs.List.{enumerate_from, filter_map}
use Rattle.std.proofs.lemmas.List.{take_all}
use Rattle.catalogue_rules.specs.State.{KeptField, linkable_authorities}
use Rattle.numbered_store.specs.Kept.{kept_record}
use Rattle.heading_worklist.specs.Headings.{compared, open_heading}
use Rattle.heading_worklist.proofs.Walked.{one_more}
use Rattle.heading_worklist.proofs.finding.push_row.Goals as goal

pub loop-place-preserved : goal.loop-place-preserved
loop-place-preserved c =
    let fields = (kept_record c.args.kept.now).fields in
    one_more (open_heading (linkable_authorities c.args.engine.now.state) c.args.class (c.args.key.now, kept_record c.args.kept.now)) compared
    fields c.loop-place.place _ _ _ c.loop-place.invariant c.in_ok-push_open.ensures

pub returns : goal.returns
returns c =
    c.loop-place.invariant
    ∙ ap (λ (hs : List KeptField). c.args.found.now.items ++ map compared (filter_map (open_heading (linkable_authorities c.args.engine.now.state) c.args.class (c.args.key.now, kept_record c.args.kept.now)) (enumerate_from 0 hs)))
    (take_all c.loop-place.place (kept_record c.args.kept.now).fields (omega (arith, c.loop-place-test.false, c.field_count-place-end.ensures)))
