-- What is known of an authority by its row alone.
use Rattle.std.specs.Prelude.{◌≡◌, ℕ, List, filter_map, slice_get, Option, None, Some}
use Rattle.marc_types.specs.declared.form.Form.{Form}
use Rattle.entry_record.specs.Authority.{Linkable}
use Rattle.linking_laws.specs.Waiting.{forms_of, is_form_among}
use Rattle.catalogue_tables.specs.declared.known.KnownAuthority.{KnownAuthority}

-- the forms that have these numbers
abbrev pub forms_with : List Form → List ℕ → List Form
forms_with names numbers = filter_map (slice_get names) numbers

-- the authority is of this kind, and found under these forms
pub record HasKindAndForms (c : Linkable) (known : KnownAuthority) : Type 0 where
  pub kind_is : known.kind ≡ c.kind
  pub forms_are : (form : Form) → is_form_among known.forms.items form ≡ is_form_among (forms_of c) form

-- an authority is known; where there is none, none is
abbrev pub IsKnownAs : Option Linkable → Option KnownAuthority → Type 0
IsKnownAs None None = Unit {0}
IsKnownAs (Some c) (Some known) = HasKindAndForms c known
IsKnownAs _ _ = ⊥
