use Rattle.std.proofs.Common.{[], ◌∷◌, ◌∙◌, ap}
use Rattle.std.proofs.lemmas.Result.{on_ok_weaker}
use Rattle.heading_list.specs.Rows.{tracing_rows}
use Rattle.heading_list.proofs.Firsts.{takes_then, takes_these}
use Rattle.heading_list.proofs.Tracings.{headless, rows_are}
use Rattle.heading_list.specs.Rows.{coded_text, list_row}
use Rattle.heading_list.specs.declared.row.Role.TheVariants.{Established}
use Rattle.heading_list.proofs.authorities.put_linkable.Goals as goal

pub unreachable-requires : goal.unreachable-requires
unreachable-requires c = headless c.args.key.now c.args.fields.now c.args.established.now c.in_default.ensures c.requires

pub returns : goal.returns
returns c =
    let key = c.args.key.now in
    let fields = c.args.fields.now in
    let form = c.args.established.now in
    let heading = c.in-Some.heading.now in
    let row = list_row form Established key (coded_text heading) in
    let own = c.in_ok-of.ensures ∙ ap (λ f. list_row f Established key (coded_text heading)) c.in_ok-form.ensures in
    on_ok_weaker c.put_tracings.result
    (λ more. takes_these c.args.first.now c.put_tracings.new.first (row ∷ tracing_rows key form.kind fields) _
    (rows_are key fields heading form c.in-Some.ensures c.requires)
    (takes_then c.args.first.now c.put.new.self c.put_tracings.new.first (row ∷ []) (tracing_rows key form.kind fields)
    (takes_these c.args.first.now c.put.new.self _ (row ∷ []) (ap (λ r. r ∷ []) own) c.in_ok-put.ensures) more))
    c.put_tracings.ensures
