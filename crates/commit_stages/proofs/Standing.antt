-- How an unlinked field stands once it has its choice.
use Rattle.std.proofs.Common.{◌≡◌, ◌∙◌, sym, ap, refl, List, Option, Some, None, Bool}
use Rattle.std.specs.Option.{option_map, option_map_or}
use Rattle.marc_types.specs.declared.form.Kind.{Kind}
use Rattle.marc_types.specs.declared.key.Class.{Class}
use Rattle.marc_types.specs.declared.key.Key.{Key}
use Rattle.entry_record.specs.Authority.{Linkable, heading_kind}
use Rattle.catalogue_rules.specs.State.{KeptField}
use Rattle.catalogue_rules.specs.Choice.{Choice, Link, Ambiguous, Unlinked, choice}
use Rattle.catalogue_rules.specs.Receipt.{LinkedTo, WithoutHeading, standing_by, standing_of, standing_unlinked}
use Rattle.catalogue_rules.specs.Settle.{link_to, settle_field, settle_linked, settle_unlinked, take_choice}
use Rattle.catalogue_tables.specs.Choosing.{chosen_for, heading_choice}
use Rattle.catalogue_tables.specs.declared.choosing.Chosen.{Chosen}
use Rattle.catalogue_tables.specs.declared.choosing.Chosen.TheVariants as chosen
use Rattle.commit_stages.specs.Standing.{stands_as, stands_settled}
use Rattle.commit_stages.specs.declared.settled.Stands.{Stands}
use Rattle.commit_stages.specs.declared.settled.Stands.TheVariants as stands
use Rattle.commit_stages.proofs.Given.{settled_choice}

-- how a field stands of which this is told
abbrev pub stands_told : Option Chosen → Stands
stands_told None = stands.NoHeading
stands_told (Some (chosen.Link number whole)) = stands.Linked
stands_told (Some chosen.Ambiguous) = stands.Ambiguous
stands_told (Some chosen.Unlinked) = stands.Unlinked

by_choice : (o : Option Kind) (f : Kind → Choice) → option_map_or (λ kind. standing_by (f kind)) o WithoutHeading ≡ option_map_or standing_by (option_map f o) WithoutHeading
by_choice None f = refl
by_choice (Some kind) f = refl

linked_stands : (all : List Linkable) (class : Class) (h : KeptField) (whole : Bool) (c : Linkable) → standing_of all class (link_to class h whole c) ≡ LinkedTo c.key
unfolding standing_of
linked_stands all class h whole c = refl

module _ (all : List Linkable) (class : Class) (h : KeptField) (unlinked : h.tie.key ≡ None) where
  settled_by : settle_field all class h ≡ option_map_or (take_choice class h) (heading_choice all class h) h
  unfolding settle_field
  settled_by = ap (λ (o : Option Key). option_map_or (settle_linked all class h) o (settle_unlinked all class h)) unlinked ∙ settled_choice all class h

  standing_chosen : standing_of all class h ≡ option_map_or standing_by (heading_choice all class h) WithoutHeading
  unfolding standing_of
  standing_chosen =
      ap (λ (o : Option Key). option_map_or (λ key. LinkedTo key) o (standing_unlinked all class h)) unlinked
      ∙ by_choice (heading_kind class h.field) (λ kind. choice all class kind h)

  -- the field that stays stands by its choice
  stays_so : (o : Option Choice) → heading_choice all class h ≡ o → settle_field all class h ≡ h → stands_settled all class h ≡ stands_as (option_map_or standing_by o WithoutHeading)
  stays_so o is stays =
      ap (λ (g : KeptField). stands_as (standing_of all class g)) stays
      ∙ ap stands_as (standing_chosen ∙ ap (λ (p : Option Choice). option_map_or standing_by p WithoutHeading) is)

  settled_so : (o : Option Choice) → heading_choice all class h ≡ o → settle_field all class h ≡ option_map_or (take_choice class h) o h
  settled_so o is = settled_by ∙ ap (λ (p : Option Choice). option_map_or (take_choice class h) p h) is

  stands_by : (keys : List Key) (o : Option Choice) → heading_choice all class h ≡ o → stands_settled all class h ≡ stands_told (option_map (chosen_for keys) o)
  stands_by keys None is = stays_so None is (settled_so None is)
  stands_by keys (Some (Link c whole)) is =
      ap (λ (g : KeptField). stands_as (standing_of all class g)) (settled_so (Some (Link c whole)) is) ∙ ap stands_as (linked_stands all class h whole c)
  stands_by keys (Some (Ambiguous found)) is = stays_so (Some (Ambiguous found)) is (settled_so (Some (Ambiguous found)) is)
  stands_by keys (Some Unlinked) is = stays_so (Some Unlinked) is (settled_so (Some Unlinked) is)

  pub stands_so : (keys : List Key) (given : Option Chosen) → given ≡ option_map (chosen_for keys) (heading_choice all class h) → stands_told given ≡ stands_settled all class h
  stands_so keys given told = ap stands_told told ∙ sym (stands_by keys (heading_choice all class h) refl)
