-- The forms that an entry lends are those by which its fields are looked up.
use Rattle.std.proofs.Common.{◌≡◌, ◌∙◌, sym, ap, refl, subst, Bool, true, false, ◌&&◌, Option, Some, None}
use Rattle.std.specs.Borrow.{Bor}
use Rattle.std.specs.Option.{option_copied, option_map}
use Rattle.marc_types.specs.declared.field.Field.{Field}
use Rattle.marc_types.specs.declared.form.Form.{Form}
use Rattle.marc_types.specs.declared.key.Class.{Class}
use Rattle.marc_types.specs.Fields.{subfields_of, tag_of}
use Rattle.heading_fields.specs.Parts.{is_subdivided}
use Rattle.heading_fields.specs.Tables.{is_subdividable}
use Rattle.entry_record.specs.Authority.{full_form, heading_kind}
use Rattle.entry_record.specs.Prepared.{heading_base_form, heading_full_form}
use Rattle.catalogue_rules.specs.State.{new_field}
use Rattle.linked_store.specs.Lending.{LendsForms, both_or_base, forms_lent}
use Rattle.linked_store.specs.declared.lending.LentForms.{LentForms}
use Rattle.linked_store.specs.declared.wanted.Sought.{Sought}
use Rattle.linked_store.proofs.Wanting.{asks_divided, asks_undivided, base_by, kind_by, wants_heading}

-- ---- fields that wait for nothing

copied_none : {T : Type 0} (found : Option (Bor T)) (o : Option T) → option_copied found ≡ o → ((x : Bor T) → found ≡ Some x → ⊥) → None ≡ o
copied_none None o is none = is
copied_none (Some x) o is none = absurd (none x refl)

-- ---- headings

copied_some : {T : Type 0} (found : Option (Bor T)) (one : Bor T) (o : Option T) → found ≡ Some one → option_copied found ≡ o → Some one.now ≡ o
copied_some found one o at is = sym (ap option_copied at) ∙ is

full_by : (class : Class) (f : Field) (base full : Form) → Some base ≡ heading_base_form class f → Some full ≡ heading_full_form class f → full ≡ full_form base.kind class f
full_by class f base full made filled =
    let kind : heading_kind class f ≡ Some base.kind = kind_by f (heading_kind class f) base made in
    let same : Some full ≡ Some (full_form base.kind class f) = filled ∙ ap (option_map (λ k. full_form k class f)) kind in
    cc

lends : (class : Class) (f : Field) (base full : Form) → Some base ≡ heading_base_form class f → Some full ≡ heading_full_form class f
    → (divided : Bool) → (is_subdividable class (tag_of f) && is_subdivided (subfields_of f)) ≡ divided → LendsForms class (new_field f) (Some (both_or_base divided full base))
lends class f base full made filled true on keys names =
    wants_heading class (new_field f) base (both_or_base true full base) keys refl made
    (asks_divided class base.kind (new_field f) full base (full_by class f base full made filled) (base_by class f base made) on) names
lends class f base full made filled false off keys names =
    wants_heading class (new_field f) base (both_or_base false full base) keys refl made
    (asks_undivided class base.kind (new_field f) base (base_by class f base made) off (λ e. cc)) names

pub both_lent : (class : Class) (f : Field) (bases fulls : Option (Bor Form)) (base full : Bor Form) (lent : LentForms) → bases ≡ Some base → fulls ≡ Some full
    → option_copied bases ≡ heading_base_form class f → option_copied fulls ≡ heading_full_form class f
    → forms_lent lent ≡ both_or_base (is_subdividable class (tag_of f) && is_subdivided (subfields_of f)) full.now base.now → LendsForms class (new_field f) (Some (forms_lent lent))
both_lent class f bases fulls base full lent at there made filled is =
    subst (λ (s : Sought). LendsForms class (new_field f) (Some s)) (sym is)
    (lends class f base.now full.now (copied_some bases base (heading_base_form class f) at made) (copied_some fulls full (heading_full_form class f) there filled)
    (is_subdividable class (tag_of f) && is_subdivided (subfields_of f)) refl)
