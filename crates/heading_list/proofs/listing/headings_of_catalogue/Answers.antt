use Rattle.std.proofs.Common.{◌∙◌, ◌++◌, [], map, ap, append-nil}
use Rattle.std.proofs.lemmas.Result.{IfOk-weaker}
use Rattle.command_words.specs.Asked.{range_asked}
use Rattle.catalogue_rules.specs.Settle.{state_of}
use Rattle.catalogue_rules.specs.State.{State}
use Rattle.heading_list.proofs.Listings.{list_made}
use Rattle.heading_list.proofs.listing.headings_of_catalogue.Goals as goal
use Rattle.numbered_store.specs.Kept.{shown_row}

pub returns : goal.returns
returns c =
    let history = c.args.core.now.history in
    let s = state_of history in
    let state = ap (λ staged. state_of (history ++ staged)) c.requires ∙ ap state_of (append-nil history) in
    let authorities = c.in_ok-authorities.ensures ∙ ap (λ (s : State). s.authorities) (c.engine.ensures ∙ state) in
    let bibliographic = c.in_ok-rows.ensures ∙ ap (λ (s : State). s.bibliographic) (c.engine-2.ensures ∙ state) in
    let from = c.in_ok-from.from in
    let first = c.put_authorities.new.first in
    let has = c.in_ok-put_authorities.ensures from c.args.range.most [] c.new-first.ensures in
    IfOk-weaker c.lines.result _ _
    (λ text is. is
    ∙ list_made s (range_asked c.args.range) from first c.in_ok-links.links c.add_records.new.self c.add_records-2.new.self
    (map shown_row c.in_ok-authorities.authorities.entries) (map shown_row c.in_ok-rows.field-0.entries) authorities bibliographic c.in_ok-from.ensures has
    c.in_ok-links.ensures c.in_ok-add_records.ensures c.in_ok-add_records-2.ensures)
    c.lines.ensures
