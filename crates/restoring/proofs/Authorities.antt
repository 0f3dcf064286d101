-- The authority under a key, by the number that the key has.
use Rattle.std.proofs.Common.{◌≡◌, ◌∙◌, sym, ap, refl, ℕ, Bool, true, false, Option, Some, None}
use Rattle.std.specs.Prelude.{find, is_some, if◌then◌else◌}
use Rattle.std.specs.Option.{option_map}
use mathlib.Core.Bool.{false≢true}
use Rattle.marc_types.specs.Order.{same_key}
use Rattle.marc_types.specs.declared.form.Kind.{Kind}
use Rattle.marc_types.specs.declared.field.Field.{Field}
use Rattle.marc_types.specs.declared.key.Class.TheVariants.{Authority}
use Rattle.marc_types.specs.declared.key.Key.{Key}
use Rattle.numbering.specs.Numbers.{is_known, number_of}
use Rattle.entry_record.specs.Authority.{Linkable}
use Rattle.catalogue_rules.specs.Choice.{has_key}
use Rattle.catalogue_rules.specs.State.{linkable_authorities}
use Rattle.catalogue_tables.specs.Choosing.{number_known}
use Rattle.linked_store.specs.Linked.{Linked, key_of}
use Rattle.linking_laws.specs.Middle.{AreAuthoritiesInOrder}
use Rattle.commit_stages.specs.Choosing.{heading_under}
use Rattle.commit_stages.proofs.Numbers.{key_numbered_so}
use Rattle.commit_stages.proofs.Reached.{AreNumbered, heading_of_key}
use Rattle.restoring.proofs.Numbers.{number_given}
use Rattle.restoring.specs.Resting.{heading_given}

none_of : (o : Option Linkable) → is_some o ≡ false → o ≡ None
none_of None e = refl
none_of (Some c) e = absurd (false≢true (sym e))

module _ (x : Linked) (key : Key) where
  abbrev under : Option Linkable
  under = find (has_key key) (linkable_authorities x.state)

  -- a key without a number has no authority
  pub none_known : AreNumbered x → None ≡ number_known x.keys.authorities key → None ≡ option_map heading_given under
  none_known numbered e = ap (option_map heading_given) (sym (none_of under (not_there (is_some under) refl)))
    where
      unknown : (b : Bool) → is_known same_key x.keys.authorities key ≡ b → None ≡ (if b then Some (number_of same_key x.keys.authorities key) else None) → b ≡ false
      unknown true known is = cc
      unknown false known is = refl

      not_there : (b : Bool) → is_some under ≡ b → b ≡ false
      not_there false there = refl
      not_there true there =
          let known : is_known same_key x.keys.authorities key ≡ true = numbered key there in
          absurd (false≢true (sym (unknown (is_known same_key x.keys.authorities key) refl e) ∙ known))

  module _ (number : ℕ) (is : Some number ≡ number_known x.keys.authorities key) where
    named : key_of Authority number x.keys ≡ key
    named = key_numbered_so x.keys.authorities key number (number_given x.keys.authorities key number is)

    told_under : (told : Bool) → told ≡ is_some (find (has_key (key_of Authority number x.keys)) (linkable_authorities x.state)) → told ≡ is_some under
    told_under told e = e ∙ ap (λ (k : Key). is_some (find (has_key k) (linkable_authorities x.state))) named

    -- fields can't be linked to it
    pub none_linkable : (told : Bool) → told ≡ is_some (find (has_key (key_of Authority number x.keys)) (linkable_authorities x.state)) → told ≡ false
        → None ≡ option_map heading_given under
    none_linkable told e off = ap (option_map heading_given) (sym (none_of under (sym (told_under told e) ∙ off)))

    -- fields can be linked to it
    pub heading_found : (told : Bool) (heading : Option (Kind × Field)) → AreAuthoritiesInOrder x.state
        → told ≡ is_some (find (has_key (key_of Authority number x.keys)) (linkable_authorities x.state)) → told ≡ true
        → heading ≡ heading_under number x → heading ≡ option_map heading_given under
    heading_found told heading order e on read = read ∙ by under refl (sym (told_under told e) ∙ on)
      where
        by : (o : Option Linkable) → under ≡ o → is_some o ≡ true → heading_under number x ≡ option_map heading_given o
        by None found some = absurd (false≢true some)
        by (Some c) found some = heading_of_key x order number key c named found
