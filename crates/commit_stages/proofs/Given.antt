-- What a choice makes of an unlinked field, where it is a link and where it isn't, and the visit that a link takes.
use Rattle.std.proofs.Common.{◌≡◌, ◌∙◌, sym, ap, refl, subst, ℕ, List, Option, Some, None, Bool, true}
use Rattle.std.specs.Prelude.{IfSome}
use Rattle.std.specs.Option.{option_map, option_map_or}
use Rattle.marc_types.specs.Valid.{is_field}
use Rattle.marc_types.specs.declared.field.Field.{Field}
use Rattle.marc_types.specs.declared.entry.Tie.{Tie}
use Rattle.marc_types.specs.declared.form.Kind.{Kind}
use Rattle.marc_types.specs.declared.key.Class.{Class}
use Rattle.marc_types.specs.declared.key.Class.TheVariants.{Authority}
use Rattle.marc_types.specs.declared.key.Key.{Key}
use Rattle.heading_fields.proofs.Fieldlaws.{is_field_rewriting}
use Rattle.entry_record.specs.Authority.{Linkable, heading_kind}
use Rattle.catalogue_rules.specs.State.{KeptField, kept_field, linkable_authorities}
use Rattle.catalogue_rules.specs.Choice.{Choice, Link, Ambiguous, Unlinked, choice}
use Rattle.catalogue_rules.specs.Settle.{link_to, settle_unlinked, take_choice}
use Rattle.linking_laws.specs.Middle.{AreAuthoritiesInOrder}
use Rattle.catalogue_tables.specs.Choosing.{chosen_for, heading_choice}
use Rattle.catalogue_tables.specs.declared.choosing.Chosen.{Chosen}
use Rattle.catalogue_tables.specs.declared.choosing.Chosen.TheVariants as chosen
use Rattle.field_settling.specs.Held.{held_as, linked_by}
use Rattle.field_settling.specs.declared.held.Held.{Held}
use Rattle.linked_store.specs.Linked.{IsNumber, Linked, key_of}
use Rattle.commit_stages.specs.Choosing.{heading_under, linked_under}
use Rattle.commit_stages.specs.Settled.{IsChoiceSettledTo}
use Rattle.commit_stages.proofs.Reached.{AreNumbered, IsAuthorityUnder, choice_found_by_key, reached}

taken : (class : Class) (h : KeptField) (o : Option Kind) (f : Kind → Choice) → option_map_or (λ kind. take_choice class h (f kind)) o h ≡ option_map_or (take_choice class h) (option_map f o) h
taken class h None f = refl
taken class h (Some kind) f = refl

pub settled_choice : (all : List Linkable) (class : Class) (h : KeptField) → settle_unlinked all class h ≡ option_map_or (take_choice class h) (heading_choice all class h) h
settled_choice all class h = taken class h (heading_kind class h.field) (λ kind. choice all class kind h)

-- a link to the authority under a number is what the choice makes of the field
record IsLinkTo (class : Class) (h : KeptField) (number : ℕ) (whole : Bool) (x : Linked) : Type 0 where
  authority : Linkable
  under : IsAuthorityUnder number authority x
  settled : settle_unlinked (linkable_authorities x.state) class h ≡ link_to class h whole authority

some_same : {T : Type 0} (x y : T) → Some x ≡ Some y → x ≡ y
some_same x y e = cc

same_number : (a b : ℕ) (v w : Bool) → Some (chosen.Link a v) ≡ Some (chosen.Link b w) → a ≡ b
same_number a b v w e = cc

same_whole : (a b : ℕ) (v w : Bool) → Some (chosen.Link a v) ≡ Some (chosen.Link b w) → v ≡ w
same_whole a b v w e = cc

pub told_so : (given told : Option Chosen) (c d : Chosen) → given ≡ Some c → c ≡ d → given ≡ told → Some d ≡ told
told_so given told c d some is e = cc

module _ (x : Linked) (order : AreAuthoritiesInOrder x.state) (numbered : AreNumbered x) (class : Class) (h : KeptField) where
  abbrev all : List Linkable
  all = linkable_authorities x.state

  -- what the store tells of the choice
  abbrev pub told_choice : Option Chosen
  told_choice = option_map (chosen_for x.keys.authorities) (heading_choice all class h)

  link_is : (number : ℕ) (whole : Bool) → Some (chosen.Link number whole) ≡ told_choice → IsLinkTo class h number whole x
  link_is number whole told = by (heading_choice all class h) refl told
    where
      by : (o : Option Choice) → heading_choice all class h ≡ o → Some (chosen.Link number whole) ≡ option_map (chosen_for x.keys.authorities) o
          → IsLinkTo class h number whole x
      by None is e = cc
      by (Some (Link c w)) is e = record {
        authority = c;
        under = subst (λ (n : ℕ). IsAuthorityUnder n c x) (sym (same_number number _ whole w e)) (reached x order numbered c (choice_found_by_key x order numbered class h c w is));
        settled = settled_choice all class h ∙ ap (λ (o : Option Choice). option_map_or (take_choice class h) o h) is
            ∙ ap (λ (b : Bool). link_to class h b c) (sym (same_whole number _ whole w e));
      }
      by (Some (Ambiguous keys)) is e = cc
      by (Some Unlinked) is e = cc

  pub link_known : (number : ℕ) (whole : Bool) → Some (chosen.Link number whole) ≡ told_choice → IsNumber Authority number x.keys
  link_known number whole told = (link_is number whole told).under.known

module _ (x : Linked) (order : AreAuthoritiesInOrder x.state) (numbered : AreNumbered x) (class : Class) (field : Field) (tie : Tie) (number : ℕ) (whole : Bool)
    (told : Some (chosen.Link number whole) ≡ option_map (chosen_for x.keys.authorities) (heading_choice (linkable_authorities x.state) class (kept_field field tie))) where
  abbrev h : KeptField
  h = kept_field field tie

  link : IsLinkTo class h number whole x
  link = link_is x order numbered class h number whole told

  made_under : linked_under class field whole number x ≡ Some (link_to class h whole link.authority)
  made_under =
      ap (option_map (λ (heading : Kind × Field). linked_by class field whole (key_of Authority number x.keys) heading.0 heading.1)) link.under.heading
      ∙ ap (λ (k : Key). Some (linked_by class field whole k link.authority.kind link.authority.heading)) link.under.key

  heading_proper : IfSome (heading_under number x) (λ (heading : Kind × Field). is_field heading.1 ≡ true) → is_field link.authority.heading ≡ true
  heading_proper proper = subst (λ (o : Option (Kind × Field)). IfSome o (λ (heading : Kind × Field). is_field heading.1 ≡ true)) link.under.heading proper

  held_is : (held : Held) → Some (held_as held) ≡ linked_under class field whole number x → held_as held ≡ link_to class h whole link.authority
  held_is held e = some_same (held_as held) (link_to class h whole link.authority) (e ∙ made_under)

  -- the linked field is the field with its choice
  pub link_given : (made : Option Held) → option_map held_as made ≡ linked_under class field whole number x
      → IfSome (heading_under number x) (λ (heading : Kind × Field). is_field heading.1 ≡ true) → IsChoiceSettledTo (linkable_authorities x.state) class h made
  link_given None e proper = let same : None ≡ Some (link_to class h whole link.authority) = e ∙ made_under in cc
  link_given (Some held) e proper = record {
    made_is = held_is held e ∙ sym link.settled;
    proper = λ good. subst (λ (g : KeptField). is_field g.field ≡ true) (sym (held_is held e))
        (is_field_rewriting field link.authority.kind class link.authority.heading link.authority.key whole good (heading_proper proper) link.under.code_proper link.under.number_proper);
  }
