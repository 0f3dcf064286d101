-- The row that an entry brings, from the form that was made of its heading.
use Rattle.std.proofs.Common.{◌≡◌, ◌∙◌, List, refl, sym, ap, Option, Some, None}
use Rattle.std.specs.Option.{option_map}
use Rattle.marc_types.specs.declared.field.Field.{Field}
use Rattle.marc_types.specs.declared.form.Form.{Form}
use Rattle.marc_types.specs.declared.key.Class.{Class}
use Rattle.marc_types.specs.declared.key.Class.TheVariants.{Authority}
use Rattle.marc_types.specs.declared.key.Key.{Key}
use Rattle.entry_record.specs.Authority.{Linkable, linkable_of}
use Rattle.entry_record.specs.Prepared.{authority_in, established_in}
use Rattle.heading_rows.specs.Rows.{browse_row, row_of}
use Rattle.heading_rows.specs.Listing.{IsKeyed, row_in}
use Rattle.heading_rows.specs.declared.row.BrowseRow.{BrowseRow}
use Rattle.heading_rows.proofs.Tables.{row_keyed}

by_form : (key : Key) (row : Option BrowseRow) → IsKeyed key row → option_map (λ form. browse_row form key) (option_map (λ r. r.form) row) ≡ row
by_form key None keyed = refl
by_form key (Some r) keyed = λ i. Some (record { form = r.form; key = (sym keyed) i })

forms_are : (o : Option Linkable) → established_in o ≡ option_map (λ r. r.form) (option_map row_of o)
forms_are None = refl
forms_are (Some c) = refl

by_forms : (key : Key) (fields : List Field) (form : Option Form) → form ≡ established_in (linkable_of key fields) →
    option_map (λ form. browse_row form key) form ≡ row_in key fields
unfolding row_in
by_forms key fields form e =
    ap (option_map (λ form. browse_row form key)) (e ∙ forms_are (linkable_of key fields)) ∙ by_form key (option_map row_of (linkable_of key fields)) (row_keyed key fields)

-- the row of the form, and none where there is no form
pub row_told : (class : Class) (key : Key) (fields : List Field) (form : Option Form) → class ≡ Authority → form ≡ established_in (authority_in class key fields) →
    option_map (λ form. browse_row form key) form ≡ row_in key fields
row_told class key fields form own e = by_forms key fields form (e ∙ ap (λ c. established_in (authority_in c key fields)) own)
