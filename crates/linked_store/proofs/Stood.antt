-- How a field stands, as its tie and its tag tell.
use Rattle.std.proofs.Common.{◌≡◌, ◌∙◌, sym, ap, refl, Bool, true, false, Option, Some, None, IsSome, is_some, if◌then◌else◌, List}
use Rattle.std.specs.Option.{option_map, option_map_or}
use Rattle.marc_types.specs.Fields.{tag_of}
use Rattle.marc_types.specs.declared.entry.Tie.{Tie}
use Rattle.marc_types.specs.declared.field.Field.{Field}
use Rattle.marc_types.specs.declared.field.Tag.{Tag}
use Rattle.marc_types.specs.declared.form.Kind.{Kind}
use Rattle.marc_types.specs.declared.key.Class.{Class}
use Rattle.marc_types.specs.declared.key.Key.{Key}
use Rattle.entry_record.specs.Authority.{Linkable, heading_kind}
use Rattle.catalogue_rules.specs.State.{KeptField, kept_field}
use Rattle.catalogue_rules.specs.Receipt as definition
use Rattle.catalogue_rules.specs.Receipt.{standing_by, standing_of, standing_unlinked}
use Rattle.catalogue_rules.specs.Choice.{choice}
use Rattle.catalogue_tables.specs.Stands.{field_standing, stands_as}
use Rattle.catalogue_tables.specs.declared.standing.Standing.TheVariants.{Linked, NoHeading}
use Rattle.numbered_store.specs.Kept.{found_field}
use Rattle.numbered_store.specs.declared.kept.FoundField.{FoundField}
use Rattle.linked_store.specs.Holding.{can_be_heading, row_held}
use Rattle.linked_store.specs.declared.held.RowHeld.TheVariants.{Link, Waiting, Nothing}
use Rattle.linked_store.proofs.Holding.{no_kind}

-- a field stands at the place whose tag was found
pub tag_there : (o : Option KeptField) (tag : Tag) → Some tag ≡ option_map (λ (h : KeptField). tag_of h.field) o → IsSome o
tag_there None tag is = cc
tag_there (Some h) tag is = refl

module _ (all : List Linkable) (class : Class) where
  pub no_tag_stands : (o : Option KeptField) → None ≡ option_map (λ (h : KeptField). tag_of h.field) o → None ≡ option_map (field_standing all class) o
  no_tag_stands None off = refl
  no_tag_stands (Some h) off = cc

  linked_at : (h : KeptField) (o : Option Key) → h.tie.key ≡ o → is_some o ≡ true → Linked ≡ field_standing all class h
  unfolding standing_of
  linked_at h None is linked = cc
  linked_at h (Some key) is linked = sym (ap (λ (p : Option Key). stands_as (option_map_or (λ key. definition.LinkedTo key) p (standing_unlinked all class h))) is)

  plain_at : (h : KeptField) (o : Option Key) → h.tie.key ≡ o → is_some o ≡ false → heading_kind class h.field ≡ None → NoHeading ≡ field_standing all class h
  unfolding standing_of
  plain_at h None is unlinked none =
      sym (ap (λ (p : Option Key). stands_as (option_map_or (λ key. definition.LinkedTo key) p (standing_unlinked all class h))) is
      ∙ ap (λ (k : Option Kind). stands_as (option_map_or (λ kind. standing_by (choice all class kind h)) k definition.WithoutHeading)) none)
  plain_at h (Some key) is unlinked none = cc

  told_link : (h : KeptField) (linked heading : Bool) → is_some h.tie.key ≡ linked → (if linked then Link else if heading then Waiting else Nothing) ≡ Link → is_some h.tie.key ≡ true
  told_link h true heading is told = is
  told_link h false true is told = cc
  told_link h false false is told = cc

  told_nothing : (h : KeptField) (linked heading : Bool) → is_some h.tie.key ≡ linked → can_be_heading class (tag_of h.field) ≡ heading
      → (if linked then Link else if heading then Waiting else Nothing) ≡ Nothing → (is_some h.tie.key ≡ false) × (can_be_heading class (tag_of h.field) ≡ false)
  told_nothing h true heading is can told = cc
  told_nothing h false true is can told = cc
  told_nothing h false false is can told = (is, can)

  pub link_stands : (o : Option KeptField) → Link ≡ row_held class o → IsSome o → Some Linked ≡ option_map (field_standing all class) o
  link_stands None told some = cc
  link_stands (Some h) told some =
      ap Some (linked_at h h.tie.key refl (told_link h (is_some h.tie.key) (can_be_heading class (tag_of h.field)) refl (sym told)))

  pub nothing_stands : (o : Option KeptField) → Nothing ≡ row_held class o → IsSome o → Some NoHeading ≡ option_map (field_standing all class) o
  nothing_stands None told some = cc
  nothing_stands (Some h) told some =
      let both = told_nothing h (is_some h.tie.key) (can_be_heading class (tag_of h.field)) refl refl (sym told) in
      ap Some (plain_at h h.tie.key refl both.0 (no_kind class h.field both.1))

  -- a field that was found
  pub found_stands : (o : Option KeptField) (given : Option FoundField) (found : FoundField) (field : Field) (tie : Tie) → option_map found_field given ≡ o → given ≡ Some found
      → kept_field field tie ≡ found_field found → Some (field_standing all class (kept_field field tie)) ≡ option_map (field_standing all class) o
  found_stands o given found field tie is some own =
      ap (λ (h : KeptField). Some (field_standing all class h)) own
      ∙ sym (ap (λ (g : Option FoundField). option_map (field_standing all class) (option_map found_field g)) some) ∙ ap (option_map (field_standing all class)) is

  pub none_found_stands : (o : Option KeptField) (given : Option FoundField) → option_map found_field given ≡ o → given ≡ None → None ≡ option_map (field_standing all class) o
  none_found_stands o given is none =
      sym (ap (λ (g : Option FoundField). option_map (field_standing all class) (option_map found_field g)) none) ∙ ap (option_map (field_standing all class)) is
