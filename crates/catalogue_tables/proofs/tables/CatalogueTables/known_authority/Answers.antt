use Rattle.std.proofs.Common.{◌∙◌, ap, refl, slice_get, sym}
use Rattle.form_index.specs.Index.{row_under}
use Rattle.catalogue_tables.proofs.Knowing.{first_then, known_by_row, none_by_form, none_by_row, none_lent, some_lent}
use Rattle.catalogue_tables.proofs.tables.CatalogueTables.known_authority.Goals as goal

pub returns-in_default : goal.returns-in_default
returns-in_default c = λ keys s distinct low tells.
    let tables = c.args.self.now in
    none_by_row tables.forms keys tables.index s c.args.number distinct low tells (none_lent c.row.result (row_under c.args.number tables.index) c.row.ensures c.in_default.is)

pub returns-in_default-at : goal.returns-in_default-at
returns-in_default-at c = λ keys s distinct low tells.
    let tables = c.args.self.now in
    let row = c.in-Some.row.now in
    none_by_form tables.forms keys tables.index s c.args.number distinct low tells row (some_lent c.row.result (row_under c.args.number tables.index) c.in-Some.row c.row.ensures c.in-Some.is)
    (ap (slice_get tables.forms) (sym c.established.ensures) ∙ none_lent c.at.result (slice_get tables.forms c.established.result) c.at.ensures c.in_default-at.is)

pub returns : goal.returns
returns c = λ keys s distinct low tells.
    let tables = c.args.self.now in
    let row = c.in-Some.row.now in
    let first = c.in-Some-at.established in
    known_by_row tables.forms keys tables.index s c.args.number distinct low tells row first.now (record { kind = first.now.kind; forms = c.push_forms.new.forms }) c.len-count.ensures.unique
    (some_lent c.row.result (row_under c.args.number tables.index) c.in-Some.row c.row.ensures c.in-Some.is)
    (ap (slice_get tables.forms) (sym c.established.ensures) ∙ some_lent c.at.result (slice_get tables.forms c.established.result) first c.at.ensures c.in-Some-at.is)
    refl
    (first_then tables.forms row.see_from c.see_from.result.now first.now c.in_ok-copy.field-0 c.new-forms.result.items c.push.new.self.items c.push_forms.new.forms.items
    c.new-forms.ensures.items c.in_ok-copy.ensures c.in_ok-push.ensures.items c.in_ok-push_forms.ensures c.see_from.ensures.numbers)
