-- How a field of a kept record stands, as it is seen.
use Rattle.std.proofs.Common.{◌≡◌, ◌∙◌, sym, ap, List, Option, Some, None, refl}
use Rattle.std.specs.Option.{option_map_or}
use Rattle.marc_types.specs.declared.key.Class.{Class}
use Rattle.marc_types.specs.declared.key.Key.{Key}
use Rattle.marc_types.specs.declared.form.Kind.{Kind}
use Rattle.entry_record.specs.Authority.{Linkable, heading_kind}
use Rattle.catalogue_rules.specs.State.{KeptField}
use Rattle.catalogue_rules.specs.Choice as choices
use Rattle.catalogue_rules.specs.Choice.{Choice, Link, choice}
use Rattle.catalogue_rules.specs.Receipt as definition
use Rattle.catalogue_tables.specs.Stands.{field_standing, stands_as}
use Rattle.catalogue_tables.specs.declared.standing.Standing.{Standing}
use Rattle.catalogue_tables.specs.declared.standing.Standing.TheVariants.{Linked, Ambiguous, Unlinked, NoHeading}
use Rattle.catalogue_core.specs.Told.{Told, ToldLinked, ToldAmbiguous, ToldUnlinked, ToldNoHeading, told_by, field_told}

-- a linked field is told by its key
pub told_linked : (all : List Linkable) (class : Class) (h : KeptField) (key : Key) → h.tie.key ≡ Some key → field_told all class h ≡ ToldLinked key
unfolding definition.standing_of
told_linked all class h key linked =
    ap (λ o. told_by (option_map_or (λ k. definition.LinkedTo k) o (definition.standing_unlinked all class h))) linked

-- what is told of a field without a key
abbrev pub told_without_key : Standing → Option Told
told_without_key Linked = None
told_without_key (Ambiguous keys) = Some ToldAmbiguous
told_without_key Unlinked = Some ToldUnlinked
told_without_key NoHeading = Some ToldNoHeading

told_chosen : (ch : Choice) → told_without_key (stands_as (definition.standing_by ch)) ≡ Some (told_by (definition.standing_by ch))
told_chosen (Link c whole) = refl
told_chosen (choices.Ambiguous keys) = refl
told_chosen choices.Unlinked = refl

told_kind : (all : List Linkable) (class : Class) (h : KeptField) (o : Option Kind)
    → told_without_key (stands_as (option_map_or (λ kind. definition.standing_by (choice all class kind h)) o definition.WithoutHeading))
    ≡ Some (told_by (option_map_or (λ kind. definition.standing_by (choice all class kind h)) o definition.WithoutHeading))
told_kind all class h None = refl
told_kind all class h (Some kind) = told_chosen (choice all class kind h)

told_unlinked_by : (all : List Linkable) (class : Class) (h : KeptField) (o : Option Key) → o ≡ None
    → told_without_key (stands_as (option_map_or (λ key. definition.LinkedTo key) o (definition.standing_unlinked all class h)))
    ≡ Some (told_by (option_map_or (λ key. definition.LinkedTo key) o (definition.standing_unlinked all class h)))
told_unlinked_by all class h None none = told_kind all class h (heading_kind class h.field)
told_unlinked_by all class h (Some key) none = cc

pub told_unlinked : (all : List Linkable) (class : Class) (h : KeptField) (standing : Standing) → h.tie.key ≡ None
    → standing ≡ field_standing all class h → told_without_key standing ≡ Some (field_told all class h)
unfolding definition.standing_of
told_unlinked all class h standing none is = ap told_without_key is ∙ told_unlinked_by all class h h.tie.key none

-- so it isn't linked
pub linked_has_key : (all : List Linkable) (class : Class) (h : KeptField) (standing : Standing) → h.tie.key ≡ None
    → standing ≡ field_standing all class h → standing ≡ Linked → ⊥
linked_has_key all class h standing none is linked =
    let some : None ≡ Some (field_told all class h) = sym (ap told_without_key linked) ∙ told_unlinked all class h standing none is in cc
