use Rattle.std.proofs.Common.{◌≡◌, ◌∙◌, [], ap}
use Rattle.std.proofs.lemmas.Result.{on_ok_weaker}
use Rattle.catalogue_rules.specs.State.{fields_of}
use Rattle.marc_types.specs.declared.record.Record.{Record}
use Rattle.heading_list.specs.Rows.{rows_of_authority}
use Rattle.heading_list.proofs.Firsts.{takes_none, takes_these}
use Rattle.heading_list.proofs.Tracings.{established_here, no_rows, their_rows}
use Rattle.heading_list.proofs.authorities.put_authority.Goals as goal
use Rattle.numbered_store.specs.Kept.{kept_record}

pub returns-in-Some : goal.returns-in-Some
returns-in-Some c =
    let key = c.args.key.now in
    let kept = kept_record c.args.kept.now in
    let fields = c.as_slice.result.now in
    let same : fields ≡ fields_of kept = c.as_slice.ensures ∙ (ap (λ (r : Record). r.fields) c.in_ok-rec-2.ensures.record ∙ c.in_ok-rec.ensures) in
    on_ok_weaker c.put_linkable.result (takes_these c.args.first.now c.put_linkable.new.first _ (rows_of_authority (key, kept)) (their_rows key kept fields same))
    c.put_linkable.ensures

pub returns : goal.returns
returns c =
    let first = c.args.first.now in
    let key = c.args.key.now in
    let kept = kept_record c.args.kept.now in
    let none = c.in-None.ensures
    ∙ established_here c.in_ok-rec-2.standing c.in_ok-copy.field-0 key c.in_ok-rec.rec (fields_of kept) c.in_ok-rec-2.ensures.rest c.in_ok-copy.ensures c.in_ok-rec.ensures in
    takes_these first first [] (rows_of_authority (key, kept)) (no_rows key kept none) (takes_none first)
