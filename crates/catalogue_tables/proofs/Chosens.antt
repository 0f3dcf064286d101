-- The choice of a field is by a number, else by its full form, else by its base form.
use Rattle.std.proofs.Common.{◌≡◌, ◌∙◌, sym, ap, refl, List, true, Option, Some, None, unwrap_or, if◌then◌else◌}
use Rattle.std.specs.Option.{option_map, option_or}
use Rattle.marc_types.specs.Fields.{tag_of}
use Rattle.marc_types.specs.declared.field.Field.{Field}
use Rattle.marc_types.specs.declared.form.Form.{Form}
use Rattle.marc_types.specs.declared.form.Kind.{Kind}
use Rattle.marc_types.specs.declared.key.Class.{Class}
use Rattle.marc_types.specs.declared.key.Key.{Key}
use Rattle.form_index.specs.Index.{Indexed}
use Rattle.heading_fields.specs.Tables.{is_subdividable}
use Rattle.naco_form.specs.Form.{form_of}
use Rattle.entry_record.specs.Authority.{Linkable, base_form, full_form, heading_kind}
use Rattle.entry_record.specs.Headings.{divided_form}
use Rattle.entry_record.specs.Prepared.{heading_base_form}
use Rattle.entry_record.proofs.Undivided.{full_either}
use Rattle.catalogue_rules.specs.Choice.{Choice, Unlinked, by_base_form, by_form, by_full_form, by_number, choice}
use Rattle.catalogue_rules.specs.State.{KeptField, State, linkable_authorities, new_field}
use Rattle.catalogue_tables.specs.Choosing.{TellsState, chosen_for, form_choice, heading_choice, link_by_taker, taker_by_number, unlinked}
use Rattle.catalogue_tables.specs.declared.choosing.Chosen.{Chosen}
use Rattle.catalogue_tables.specs.declared.choosing.Taker.{Taker}
use Rattle.catalogue_tables.proofs.Takers.{taken_by_number}

first_of : (f : Choice → Chosen) (a b : Option Choice) (c : Chosen) → Some c ≡ option_map f a → c ≡ f (unwrap_or (option_or a b) Unlinked)
first_of f None b c e = cc
first_of f (Some x) b c e = ap (λ (o : Option Chosen). unwrap_or o c) e

none_of : (f : Choice → Chosen) (a : Option Choice) → None ≡ option_map f a → a ≡ None
none_of f None e = refl
none_of f (Some x) e = cc

or_unlinked : (keys : List Key) (o : Option Choice) → unwrap_or (option_map (chosen_for keys) o) unlinked ≡ chosen_for keys (unwrap_or o Unlinked)
or_unlinked keys None = refl
or_unlinked keys (Some c) = refl

module _ (names : List Form) (keys : List Key) (x : Indexed) (class : Class) (kind : Kind) (h : KeptField) (s : State) (tells : TellsState names keys x s) where
  pub chosen_by_number : (taker : Taker) → Some taker ≡ taker_by_number names keys x class kind h → link_by_taker class h taker ≡ chosen_for keys (choice (linkable_authorities s) class kind h)
  unfolding choice
  chosen_by_number taker e =
      first_of (chosen_for keys) (by_number (linkable_authorities s) class kind h)
      (option_or (by_full_form (linkable_authorities s) class kind h) (by_base_form (linkable_authorities s) class kind h)) (link_by_taker class h taker)
      (ap (option_map (link_by_taker class h)) e ∙ taken_by_number names keys x s tells class kind h)

  pub by_no_number : None ≡ taker_by_number names keys x class kind h → by_number (linkable_authorities s) class kind h ≡ None
  by_no_number e =
      none_of (chosen_for keys) (by_number (linkable_authorities s) class kind h) (ap (option_map (link_by_taker class h)) e ∙ taken_by_number names keys x s tells class kind h)

  pub chosen_by_forms : (c : Chosen) → None ≡ taker_by_number names keys x class kind h → c ≡ chosen_for keys (form_choice (linkable_authorities s) class kind h)
      → c ≡ chosen_for keys (choice (linkable_authorities s) class kind h)
  unfolding choice
  chosen_by_forms c none e =
      e ∙ ap (λ o. chosen_for keys (unwrap_or (option_or o (option_or (by_full_form (linkable_authorities s) class kind h) (by_base_form (linkable_authorities s) class kind h))) Unlinked))
      (sym (by_no_number none))

module _ (keys : List Key) (all : List Linkable) (class : Class) (kind : Kind) (h : KeptField) where
  pub full_first : (c : Chosen) → Some c ≡ option_map (chosen_for keys) (by_full_form all class kind h) → c ≡ chosen_for keys (form_choice all class kind h)
  full_first c e = first_of (chosen_for keys) (by_full_form all class kind h) (by_base_form all class kind h) c e

  pub base_next : (c : Chosen) → None ≡ option_map (chosen_for keys) (by_full_form all class kind h)
      → c ≡ unwrap_or (option_map (chosen_for keys) (by_base_form all class kind h)) unlinked → c ≡ chosen_for keys (form_choice all class kind h)
  base_next c neither e =
      e ∙ or_unlinked keys (by_base_form all class kind h)
      ∙ ap (λ o. chosen_for keys (unwrap_or (option_or o (by_base_form all class kind h)) Unlinked)) (sym (none_of (chosen_for keys) (by_full_form all class kind h) neither))

formed : (kind : Kind) (f : Field) → (base_form kind f).kind ≡ kind
unfolding form_of
formed kind f = refl

-- the base form that was made is of the heading's kind
pub form_made : (f : Field) (o : Option Kind) (base : Form) → Some base ≡ option_map (λ kind. base_form kind f) o → base ≡ base_form base.kind f
form_made f None base e = cc
form_made f (Some kind) base e =
    let is : base ≡ base_form kind f = ap (λ (o : Option Form). unwrap_or o base) e in
    let same : base.kind ≡ kind = ap (λ (x : Form). x.kind) is ∙ formed kind f in
    is ∙ ap (λ k. base_form k f) (sym same)

pub kind_made : (f : Field) (o : Option Kind) (base : Form) → Some base ≡ option_map (λ kind. base_form kind f) o → o ≡ Some base.kind
kind_made f None base e = cc
kind_made f (Some kind) base e =
    let is : base ≡ base_form kind f = ap (λ (o : Option Form). unwrap_or o base) e in
    let same : base.kind ≡ kind = ap (λ (x : Form). x.kind) is ∙ formed kind f in
    ap (λ (k : Kind). Some k) (sym same)

pub field_chosen : (keys : List Key) (all : List Linkable) (class : Class) (h : KeptField) (base : Form) (c : Chosen) → Some base ≡ heading_base_form class h.field
    → c ≡ chosen_for keys (choice all class base.kind h) → Some c ≡ option_map (chosen_for keys) (heading_choice all class h)
field_chosen keys all class h base c e is =
    ap (λ (d : Chosen). Some d) is
    ∙ ap (λ (o : Option Kind). option_map (chosen_for keys) (option_map (λ kind. choice all class kind h) o)) (sym (kind_made h.field (heading_kind class h.field) base e))

-- by the full form, where the field takes subdivisions: one without any has its base form as its full form
pub by_full : (keys : List Key) (all : List Linkable) (class : Class) (kind : Kind) (f : Field) (form base : Form) (divided : Option Form) (result : Option Chosen)
    → is_subdividable class (tag_of f) ≡ true → base ≡ base_form kind f → divided ≡ divided_form kind class f → form ≡ unwrap_or divided base
    → result ≡ option_map (chosen_for keys) (by_form all true form) → result ≡ option_map (chosen_for keys) (by_full_form all class kind (new_field f))
by_full keys all class kind f form base divided result takes is made full found =
    let whole : form ≡ full_form kind class f = full ∙ ap (λ o. unwrap_or o base) made ∙ ap (λ b. unwrap_or (divided_form kind class f) b) is ∙ full_either kind class f in
    found ∙ ap (λ g. option_map (chosen_for keys) (by_form all true g)) whole
    ∙ ap (λ b. option_map (chosen_for keys) (if b then by_form all true (full_form kind class f) else None)) (sym takes)
