-- The form of a part of a heading, by which headings are compared (NACO Authority File Comparison Rules, as this project's
-- profile: two headings of a kind are the same where their codes and comparison texts are).
use Rattle.std.specs.Prelude.{ℕ, Bool, true, false, List, [], ◌∷◌, map, filter}
use Rattle.marc_types.specs.declared.field.Subfield.{Subfield}
use Rattle.marc_types.specs.declared.form.Form.{Form}
use Rattle.marc_types.specs.declared.form.Item.{Item}
use Rattle.marc_types.specs.declared.form.Kind.{Kind}
use Rattle.naco_form.specs.Comparison.{comparison_bytes}

-- a subfield's code and comparison text
abbrev pub item_of : Subfield → Item
item_of sub = record { code = sub.code; text = comparison_bytes sub.code sub.text }

-- a comparison text isn't empty
abbrev pub is_filled : List ℕ → Bool
is_filled [] = false
is_filled (b ∷ bs) = true

-- the items of the subfields, without those whose comparison text is empty
unfoldable pub items_of : List Subfield → List Item
items_of subs = filter (λ (item : Item). is_filled item.text) (map item_of subs)

-- the kind, and the items of the part
unfoldable pub form_of : Kind → List Subfield → Form
form_of kind subs = record { kind = kind; items = items_of subs }
