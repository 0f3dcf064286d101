-- A field that is found by its seat, decoded, and one that is not since it can be no heading.
use Rattle.std.proofs.Common.{◌≡◌, ◌∙◌, sym, ap, refl, subst, ℕ, ◌+◌, ◌≤◌, arith, List, Option, Some, None, true, false}
use Rattle.std.specs.Prelude.{option_and_then}
use Rattle.std.specs.Option.{option_map, option_map_or}
use Rattle.marc_types.specs.Fields.{tag_of}
use Rattle.marc_types.specs.declared.field.Tag.{Tag}
use Rattle.marc_types.specs.declared.form.Kind.{Kind}
use Rattle.marc_types.specs.declared.key.Class.{Class}
use Rattle.numbering.specs.declared.seat.Seat.{Seat}
use Rattle.entry_record.specs.Authority.{Linkable, heading_kind}
use Rattle.catalogue_rules.specs.State.{KeptField, KeptRecord, linkable_authorities}
use Rattle.catalogue_rules.specs.Choice.{choice}
use Rattle.catalogue_rules.specs.Settle.{settle_field, take_choice}
use Rattle.catalogue_tables.specs.Choosing.{chosen_for}
use Rattle.catalogue_rules.specs.Store.{field_at}
use Rattle.numbered_store.specs.Kept.{found_field}
use Rattle.numbered_store.specs.declared.kept.FoundField.{FoundField}
use Rattle.linked_store.specs.Linked.{Linked, field_of, record_at}
use Rattle.linked_store.specs.Holding.{can_be_heading}
use Rattle.linked_store.proofs.Holding.{no_kind}
use Rattle.commit_stages.specs.Fields.{FindsHeading}
use Rattle.commit_stages.specs.Standing.{stands_settled}
use Rattle.commit_stages.specs.Turns.{IsToDo, visits_at}
use Rattle.commit_stages.specs.Unlinked.{has_no_link, turn_visits}
use Rattle.commit_stages.specs.declared.settled.Stands.TheVariants.{NoHeading}
use Rattle.commit_stages.proofs.SettledFields.{unlinked_settled, unlinked_there}
use Rattle.commit_stages.proofs.Standing.{stands_so}

-- ---- a field of a record stands at the seat

pub field_read : (x : Linked) (seat : Seat) (r : KeptRecord) → Some r ≡ record_at seat.class seat.number x → field_at seat.field r ≡ field_of seat x
field_read x seat r e = ap (option_and_then (field_at seat.field)) e

pub no_field_read : (x : Linked) (seat : Seat) → None ≡ record_at seat.class seat.number x → None ≡ field_of seat x
no_field_read x seat e = ap (option_and_then (field_at seat.field)) e

-- what was found stands there
pub found_there : (stands : Option KeptField) (given : Option FoundField) (found : FoundField) (h : KeptField) → option_map found_field given ≡ stands → given ≡ Some found → h ≡ found_field found
    → Some h ≡ stands
found_there stands given found h is some own = ap (λ (k : KeptField). Some k) own ∙ sym (ap (option_map found_field) some) ∙ is

pub none_there : (stands : Option KeptField) (given : Option FoundField) → option_map found_field given ≡ stands → given ≡ None → None ≡ stands
none_there stands given is none = sym (ap (option_map found_field) none) ∙ is

-- ---- a field that can be a heading

none_some : {A : Type 0} (h : KeptField) → None ≡ Some h → A
none_some h e = cc

some_same : (g h : KeptField) → Some g ≡ Some h → g ≡ h
some_same g h e = cc

module _ (class : Class) where
  pub finds_nothing : (stands : Option KeptField) → None ≡ stands → FindsHeading class stands None
  finds_nothing stands off = record { some = λ h e. none_some h e; none = λ h e there. none_some h (off ∙ there) }

  pub finds_it : (stands found : Option KeptField) → found ≡ stands → FindsHeading class stands found
  finds_it stands found same = record { some = λ h e. sym same ∙ e; none = λ h off there. none_some h (sym off ∙ same ∙ there) }

  pub finds_plain : (stands : Option KeptField) → option_map_or (λ (h : KeptField). can_be_heading class (tag_of h.field)) stands false ≡ false → FindsHeading class stands None
  finds_plain None plain = finds_nothing None refl
  finds_plain (Some g) plain = record {
    some = λ h e. none_some h e;
    none = λ h e there. subst (λ (k : KeptField). can_be_heading class (tag_of k.field) ≡ false) (some_same g h there) plain;
  }

  pub tag_tells : (o : Option KeptField) (tag : Tag) → Some tag ≡ option_map (λ (h : KeptField). tag_of h.field) o
      → can_be_heading class tag ≡ option_map_or (λ (h : KeptField). can_be_heading class (tag_of h.field)) o false
  tag_tells None tag is = cc
  tag_tells (Some h) tag is = let same : tag ≡ tag_of h.field = cc in ap (can_be_heading class) same

  pub no_tag_tells : (o : Option KeptField) → None ≡ option_map (λ (h : KeptField). tag_of h.field) o
      → false ≡ option_map_or (λ (h : KeptField). can_be_heading class (tag_of h.field)) o false
  no_tag_tells None off = refl
  no_tag_tells (Some h) off = cc

  -- what was found as a heading stands there
  pub heading_there : (stands : Option KeptField) (given : Option FoundField) (found : FoundField) (h : KeptField) → FindsHeading class stands (option_map found_field given) → given ≡ Some found
      → h ≡ found_field found → stands ≡ Some h
  heading_there stands given found h finds some own = finds.some h (ap (option_map found_field) some ∙ sym (ap (λ (k : KeptField). Some k) own))

-- ---- one that can be none stays as it is

module _ (seat : Seat) (x : Linked) (to_do : IsToDo has_no_link seat x) (given : Option FoundField) (finds : FindsHeading seat.class (field_of seat x) (option_map found_field given)) (none : given ≡ None)
    (h : KeptField) (there : field_of seat x ≡ Some h) where
  plain_kind : heading_kind seat.class h.field ≡ None
  plain_kind = no_kind seat.class h.field (finds.none h (ap (option_map found_field) none) there)

  pub plain_stays : settle_field (linkable_authorities x.state) seat.class h ≡ h
  plain_stays =
      unlinked_settled (linkable_authorities x.state) seat.class h (unlinked_there seat x h to_do there)
      ∙ ap (λ (o : Option Kind). option_map_or (λ kind. take_choice seat.class h (choice (linkable_authorities x.state) seat.class kind h)) o h) plain_kind

  pub plain_stands : NoHeading ≡ stands_settled (linkable_authorities x.state) seat.class h
  plain_stands =
      stands_so (linkable_authorities x.state) seat.class h (unlinked_there seat x h to_do there) x.keys.authorities None
      (sym (ap (λ (o : Option Kind). option_map (chosen_for x.keys.authorities) (option_map (λ kind. choice (linkable_authorities x.state) seat.class kind h) o)) plain_kind))

-- ---- a visit for which memory ends

-- the field at a seat to do takes at least one
pub turn_least : (all : List Linkable) (seat : Seat) (x : Linked) (before after : ℕ) → IsToDo has_no_link seat x → after ≡ before + 1 → after ≤ before + visits_at (turn_visits all) x seat
turn_least all seat x before after to_do step = by (field_of seat x) to_do.passes
  where
    by : (o : Option KeptField) → option_map_or (has_no_link seat.class) o false ≡ true → after ≤ before + option_map_or (turn_visits all seat.class) o 0
    by None passes = cc
    by (Some h) passes = omega (arith, step)
