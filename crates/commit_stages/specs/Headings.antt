-- The heading of a record, by the place where it stands, and one that was decoded.
use Rattle.std.specs.Prelude.{◌≡◌, ℕ, ◌<◌, Bool, true, false, Option, option_and_then, option_map}
use Rattle.std.specs.Option.{option_map_or}
use Rattle.marc_types.specs.declared.field.Field.{Field}
use Rattle.marc_types.specs.declared.form.Kind.{Kind}
use Rattle.entry_record.specs.Authority.{is_heading}
use Rattle.catalogue_rules.specs.State.{KeptRecord}
use Rattle.catalogue_rules.specs.Store.{field_at}
use Rattle.field_settling.specs.Held.{with_kind}
use Rattle.commit_stages.specs.declared.heading.OwnHeading.{OwnHeading}

-- a heading's kind and field
abbrev pub own_heading : OwnHeading → Kind × Field
own_heading heading = (heading.kind, heading.field)

-- the field at the place as a heading, with the kind that its tag says, where it is one of the eight
abbrev pub heading_at : KeptRecord → ℕ → Option (Kind × Field)
heading_at r place = option_and_then with_kind (option_map (λ h. h.field) (field_at place r))

-- a heading stands at the place
abbrev pub is_heading_at : KeptRecord → ℕ → Bool
is_heading_at r place = option_map_or (λ h. is_heading h.field) (field_at place r) false

-- none stands before the place
abbrev pub HasNoHeadingBefore : KeptRecord → ℕ → Type 0
HasNoHeadingBefore r place = (i : ℕ) → i < place → is_heading_at r i ≡ false

-- the first one stands there
pub record IsFirstHeading (r : KeptRecord) (place : ℕ) : Type 0 where
  pub is : is_heading_at r place ≡ true
  pub none_before : HasNoHeadingBefore r place
