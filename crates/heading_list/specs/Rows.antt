-- The rows of a list of headings: established headings and see-from forms, each in its place of one order. Source: MARC 21 Format
-- for Authority Data (1XX heading, 4XX see from tracings); headings are compared by their forms (NACO Authority File Comparison
-- Rules, as this project's profile), and the rest of the order is this project's.
use Rattle.std.specs.Prelude.{ℕ, Bool, ◌&&◌, not, List, [], ◌∷◌, map, filter, fold, take}
use Rattle.std.specs.BTreeSet.{insert_key}
use Rattle.std.specs.List.{flat_map}
use Rattle.std.specs.Option.{option_map_or}
use Rattle.std.specs.declared.cmp.Ordering.{Ordering}
use Rattle.std.specs.Ordering.{nat_cmp, on, then_cmp, is_lt}
use Rattle.std.specs.Cmp.{IsTotalOrder, then_total, on_total, nat_cmp_total}
use Rattle.std.specs.Cmp.Lexicographic.{slice_cmp, nat_list_cmp_total}
use Rattle.marc_types.specs.Fields.{subfields_of}
use Rattle.marc_types.specs.Order.{form_cmp, form_cmp_total, key_cmp, key_cmp_total}
use Rattle.marc_types.specs.declared.field.Field.{Field}
use Rattle.marc_types.specs.declared.field.Subfield.{Subfield}
use Rattle.marc_types.specs.declared.form.Form.{Form}
use Rattle.marc_types.specs.declared.form.Kind.{Kind}
use Rattle.marc_types.specs.declared.key.Class.TheVariants.{Authority}
use Rattle.marc_types.specs.declared.key.Key.{Key}
use Rattle.entry_record.specs.Authority.{Linkable, full_form, is_tracing_of, same_kind}
use Rattle.catalogue_rules.specs.State.{Row, State, fields_of, row_linkable}
use Rattle.heading_list.specs.declared.row.ListRow.{ListRow}
use Rattle.heading_list.specs.declared.row.Role.{Role}
use Rattle.heading_list.specs.declared.row.Role.TheVariants.{Established, SeeFrom}

-- `$`, the code of a subfield, and its text
abbrev pub subfield_text : Subfield → List ℕ
subfield_text s = 36 ∷ s.code ∷ s.text

-- the subfields of a field as they stand in it, each with its code
abbrev pub coded_text : Field → List ℕ
coded_text f = flat_map subfield_text (subfields_of f)

-- a row of a form, of what that is to the authority of a key, and of the text as it stands there
abbrev pub list_row : Form → Role → Key → List ℕ → ListRow
list_row form role key text = record { form = form; role = role; key = key; text = text }

-- the row of an authority's heading
abbrev pub heading_row : Linkable → ListRow
heading_row c = list_row c.established Established c.key (coded_text c.heading)

-- the row of a see from tracing of a kind, under which the authority of a key is found
abbrev pub tracing_row : Key → Kind → Field → ListRow
tracing_row key kind f = list_row (full_form kind Authority f) SeeFrom key (coded_text f)

-- the row of each field that is such a tracing
unfoldable pub tracing_rows : Key → Kind → List Field → List ListRow
tracing_rows key kind fields = map (tracing_row key kind) (filter (is_tracing_of kind) fields)

-- the rows of an authority with these fields: its heading's, and that of each see from tracing of the heading's kind
abbrev pub rows_of_linkable : List Field → Linkable → List ListRow
rows_of_linkable fields c = heading_row c ∷ tracing_rows c.key c.kind fields

-- the rows of a kept authority; one that fields can't be linked to has none
unfoldable pub rows_of_authority : Row → List ListRow
rows_of_authority row = option_map_or (rows_of_linkable (fields_of row.1)) (row_linkable row) []

-- the established form stands before the same as a see-from form
abbrev pub role_rank : Role → ℕ
role_rank Established = 0
role_rank SeeFrom = 1

-- by the form (its kind, then its items by code and by the bytes of the text, a front first), then the established one, then by the
-- key, and then by the bytes of the text as it stands
unfoldable pub row_cmp : ListRow → ListRow → Ordering
row_cmp =
    then_cmp (on (λ r. r.form) form_cmp)
    (then_cmp (on (λ r. role_rank r.role) nat_cmp)
    (then_cmp (on (λ r. r.key) key_cmp) (on (λ r. r.text) (slice_cmp nat_cmp))))

pub row_cmp_total : IsTotalOrder row_cmp
unfolding row_cmp
row_cmp_total =
    then_total (on_total (λ r. r.form) form_cmp_total)
    (then_total (on_total (λ r. role_rank r.role) nat_cmp_total)
    (then_total (on_total (λ r. r.key) key_cmp_total) (on_total (λ r. r.text) nat_list_cmp_total)))

-- each row once, in their order
unfoldable pub in_order : List ListRow → List ListRow
in_order rows = fold (insert_key row_cmp) [] rows

-- the row is of a form's kind, and its own form isn't before that form
abbrev pub is_wanted : Form → ListRow → Bool
is_wanted from r = same_kind from.kind r.form.kind && not (is_lt (form_cmp r.form from))

-- the first of some rows, in their order, from a form on: so many of those that are wanted
unfoldable pub first_of : Form → ℕ → List ListRow → List ListRow
first_of from most rows = take most (in_order (filter (is_wanted from) rows))

-- the first rows of a state from a form on, so many of them
abbrev pub first_rows : Form → ℕ → State → List ListRow
first_rows from most s = first_of from most (flat_map rows_of_authority s.authorities)
