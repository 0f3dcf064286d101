-- What an unlinked heading field waits for.
use Rattle.std.proofs.Common.{◌≡◌, ◌∙◌, sym, ap, refl, ◌+◌, Bool, true, false, ◌&&◌, ◌||◌, not, cond, List, [], ◌∷◌, ◌++◌, Option, Some, None, unwrap_or, is_some}
use Rattle.std.specs.Prelude.{◌==◌, filter, if◌then◌else◌}
use Rattle.std.specs.List.{list_any}
use Rattle.std.specs.Option.{option_map, option_map_or}
use Rattle.std.proofs.lemmas.List.Folds.{list_any-append}
use Rattle.marc_types.specs.declared.field.Field.{Field}
use Rattle.marc_types.specs.declared.field.Subfield.{Subfield}
use Rattle.marc_types.specs.declared.form.Form.{Form}
use Rattle.marc_types.specs.declared.form.Kind.{Kind}
use Rattle.marc_types.specs.declared.key.Class.{Class}
use Rattle.marc_types.specs.declared.key.Key.{Key}
use Rattle.marc_types.specs.Fields.{subfields_of, tag_of}
use Rattle.marc_types.specs.Order.{same_form, same_key, form_Decides}
use Rattle.naco_form.specs.Form.{form_of}
use Rattle.heading_fields.specs.Numbers.{is_naming, without_blanks}
use Rattle.heading_fields.specs.Parts.{is_subdivided}
use Rattle.heading_fields.specs.Tables.{is_subdividable}
use Rattle.entry_record.specs.Authority.{base_form, full_form, heading_kind, is_heading_field, is_valid_key, key_of_text}
use Rattle.entry_record.specs.Prepared.{heading_base_form}
use Rattle.entry_record.proofs.Undivided.{full_either}
use Rattle.catalogue_rules.specs.State.{KeptField}
use Rattle.catalogue_tables.specs.Choosing.{key_named}
use Rattle.linking_laws.specs.Waiting.{asked_forms, is_form_among, names_key}
use Rattle.linking_laws.proofs.Naming.{naming_is}
use Rattle.linked_store.specs.Leading.{is_leading}
use Rattle.linked_store.specs.Turning.{Wants}
use Rattle.catalogue_tables.specs.Waiting.{one_or_two}
use Rattle.linked_store.specs.Wanted.{AsksFor, NamesKeys, forms_sought, sought_by}
use Rattle.linked_store.specs.declared.wanted.Sought.{Sought}

-- ---- fields that wait for nothing

pub wants_linked : (class : Class) (h : KeptField) → is_some h.tie.key ≡ true → Wants class h [] []
wants_linked class h linked = record {
  asking = λ form. sym (ap (λ (b : Bool). if b then false else option_map_or (λ kind. is_form_among (asked_forms class kind h) form) (heading_kind class h.field) false) linked);
  leading = λ form. sym (ap (λ (b : Bool). if b then false else option_map_or (λ kind. same_form form (full_form kind class h.field)) (heading_kind class h.field) false) linked);
  naming = λ key valid. sym (ap (λ (b : Bool). not b && (is_heading_field class h.field && names_key key h)) linked);
}

no_kind : (f : Field) (o : Option Kind) → None ≡ option_map (λ kind. base_form kind f) o → o ≡ None
no_kind f None e = refl
no_kind f (Some kind) e = cc

never : (b : Bool) → false ≡ (if b then false else false)
never true = refl
never false = refl

never_and : (b c : Bool) → false ≡ (not b && (false && c))
never_and true c = refl
never_and false c = refl

-- ---- headings

kind_made : (kind : Kind) (f : Field) → (base_form kind f).kind ≡ kind
unfolding form_of
kind_made kind f = refl

pub kind_by : (f : Field) (o : Option Kind) (base : Form) → Some base ≡ option_map (λ kind. base_form kind f) o → o ≡ Some base.kind
kind_by f None base e = cc
kind_by f (Some kind) base e = let is : base ≡ base_form kind f = cc in ap (λ (k : Kind). Some k) (sym (ap (λ (x : Form). x.kind) is ∙ kind_made kind f))

pub base_by : (class : Class) (f : Field) (base : Form) → Some base ≡ heading_base_form class f → base ≡ base_form base.kind f
base_by class f base e =
    let kind : heading_kind class f ≡ Some base.kind = kind_by f (heading_kind class f) base e in
    let same : Some base ≡ Some (base_form base.kind f) = e ∙ ap (option_map (λ k. base_form k f)) kind in
    cc

pub leading_one : (form one : Form) (other : Option Form) → is_leading (one_or_two one other) form ≡ same_form form one
leading_one form one None = refl
leading_one form one (Some other) = refl

pub wants_heading : (class : Class) (h : KeptField) (base : Form) (sought : Sought) (keys : List Key) → is_some h.tie.key ≡ false → Some base ≡ heading_base_form class h.field
    → AsksFor class base.kind h sought → NamesKeys h keys → Wants class h (forms_sought sought) keys
wants_heading class h base sought keys unlinked made asks names =
    let kind : heading_kind class h.field ≡ Some base.kind = kind_by h.field (heading_kind class h.field) base made in
    record {
      asking = λ form.
          asks.asks form
          ∙ sym (ap (λ (b : Bool). if b then false else option_map_or (λ k. is_form_among (asked_forms class k h) form) (heading_kind class h.field) false) unlinked
          ∙ ap (λ (o : Option Kind). option_map_or (λ k. is_form_among (asked_forms class k h) form) o false) kind);
      leading = λ form.
          leading_one form sought.form sought.other ∙ ap (same_form form) asks.full_first
          ∙ sym (ap (λ (b : Bool). if b then false else option_map_or (λ k. same_form form (full_form k class h.field)) (heading_kind class h.field) false) unlinked
          ∙ ap (λ (o : Option Kind). option_map_or (λ k. same_form form (full_form k class h.field)) o false) kind);
      naming = λ key valid.
          names key valid
          ∙ sym (ap (λ (b : Bool). not b && (is_heading_field class h.field && names_key key h)) unlinked ∙ ap (λ (o : Option Kind). is_some o && names_key key h) kind);
    }

-- ---- the forms by which a field is looked up

-- by what the field takes and has, and whether it is whole
abbrev forms_by : Bool → Bool → Bool → Form → Form → List Form
forms_by takes divided is_whole full base =
    (if takes then full ∷ [] else [])
    ++ filter (λ form. not (is_form_among (if takes then full ∷ [] else []) form)) (if not is_whole && (not takes || divided) then base ∷ [] else [])

asked_by : (class : Class) (kind : Kind) (h : KeptField) (takes divided is_whole : Bool) → is_subdividable class (tag_of h.field) ≡ takes → is_subdivided (subfields_of h.field) ≡ divided
    → h.tie.whole ≡ is_whole → asked_forms class kind h ≡ forms_by takes divided is_whole (full_form kind class h.field) (base_form kind h.field)
unfolding asked_forms
asked_by class kind h takes divided is_whole t d w = λ i. forms_by (t i) (d i) (w i) (full_form kind class h.field) (base_form kind h.field)

undivided_full : (kind : Kind) (class : Class) (f : Field) → is_subdivided (subfields_of f) ≡ false → base_form kind f ≡ full_form kind class f
undivided_full kind class f h = by (is_subdividable class (tag_of f)) (full_either kind class f)
  where
    by : (b : Bool) → unwrap_or (if b && is_subdivided (subfields_of f) then Some (full_form kind class f) else None) (base_form kind f) ≡ full_form kind class f → base_form kind f ≡ full_form kind class f
    by true e = rw h at e
    by false e = e

among_is : (class : Class) (kind : Kind) (h : KeptField) (forms : List Form) → asked_forms class kind h ≡ forms → (form : Form) → is_form_among forms form ≡ is_form_among (asked_forms class kind h) form
among_is class kind h forms is form = ap (λ (l : List Form). is_form_among l form) (sym is)

abbrev AsksAs : Class → Kind → KeptField → Sought → Type 0
AsksAs class kind h sought = (form : Form) → is_form_among (forms_sought sought) form ≡ is_form_among (asked_forms class kind h) form

base_is_full : (class : Class) (kind : Kind) (f : Field) → (is_subdividable class (tag_of f) && is_subdivided (subfields_of f)) ≡ false → base_form kind f ≡ full_form kind class f
base_is_full class kind f off =
    sym (ap (λ b. unwrap_or (if b then Some (full_form kind class f) else None) (base_form kind f)) off) ∙ full_either kind class f

pub asks_undivided : (class : Class) (kind : Kind) (h : KeptField) (base : Form) → base ≡ base_form kind h.field
    → (is_subdividable class (tag_of h.field) && is_subdivided (subfields_of h.field)) ≡ false → (h.tie.whole ≡ true → is_subdividable class (tag_of h.field) ≡ true)
    → AsksFor class kind h (record { form = base; other = None })
asks_undivided class kind h base is off tied = record {
  asks = by (is_subdividable class (tag_of h.field)) (is_subdivided (subfields_of h.field)) h.tie.whole refl refl refl off tied;
  full_first = is ∙ base_is_full class kind h.field off;
}
  where
    by : (takes divided is_whole : Bool) → is_subdividable class (tag_of h.field) ≡ takes → is_subdivided (subfields_of h.field) ≡ divided → h.tie.whole ≡ is_whole
        → (takes && divided) ≡ false → (is_whole ≡ true → takes ≡ true) → AsksAs class kind h (record { form = base; other = None })
    by true true w t d e off tied = cc
    by true false true t d e off tied = λ form.
        ap (λ (x : Form). same_form form x || false) (is ∙ undivided_full kind class h.field d) ∙ among_is class kind h (full_form kind class h.field ∷ []) (asked_by class kind h true false true t d e) form
    by true false false t d e off tied = λ form.
        ap (λ (x : Form). same_form form x || false) (is ∙ undivided_full kind class h.field d) ∙ among_is class kind h (full_form kind class h.field ∷ []) (asked_by class kind h true false false t d e) form
    by false d true t de e off tied = let no_way : false ≡ true = tied refl in cc
    by false d false t de e off tied = λ form.
        ap (λ (x : Form). same_form form x || false) is ∙ among_is class kind h (base_form kind h.field ∷ []) (asked_by class kind h false d false t de e) form

-- a form twice in a list counts once
kept_once : (full base form : Form) (b : Bool) → same_form base full ≡ b
    → (same_form form full || (same_form form base || false)) ≡ (same_form form full || list_any (same_form form) (cond (not (b || false)) (base ∷ []) []))
kept_once full base form true e =
    ap (λ (x : Form). same_form form full || (same_form form x || false)) ((form_Decides base full).0 e) ∙ twice (same_form form full)
  where
    twice : (c : Bool) → (c || (c || false)) ≡ (c || false)
    twice true = refl
    twice false = refl
kept_once full base form false e = refl

pub asks_divided : (class : Class) (kind : Kind) (h : KeptField) (full base : Form) → full ≡ full_form kind class h.field → base ≡ base_form kind h.field
    → (is_subdividable class (tag_of h.field) && is_subdivided (subfields_of h.field)) ≡ true → AsksFor class kind h (sought_by h.tie.whole full base)
asks_divided class kind h full base full_is base_is on = record {
  asks = by (is_subdividable class (tag_of h.field)) (is_subdivided (subfields_of h.field)) h.tie.whole refl refl refl on;
  full_first = full_is;
}
  where
    by : (takes divided is_whole : Bool) → is_subdividable class (tag_of h.field) ≡ takes → is_subdivided (subfields_of h.field) ≡ divided → h.tie.whole ≡ is_whole
        → (takes && divided) ≡ true → AsksAs class kind h (sought_by is_whole full base)
    by true true true t d e on = λ form.
        ap (λ (x : Form). same_form form x || false) full_is ∙ among_is class kind h (full_form kind class h.field ∷ []) (asked_by class kind h true true true t d e) form
    by true true false t d e on = λ form.
        (λ i. same_form form (full_is i) || (same_form form (base_is i) || false))
        ∙ kept_once (full_form kind class h.field) (base_form kind h.field) form (same_form (base_form kind h.field) (full_form kind class h.field)) refl
        ∙ ap (λ (l : List Form). is_form_among l form) (sym (asked_by class kind h true true false t d e))
    by true false w t d e on = cc
    by false divided w t d e on = cc

-- ---- the keys that a field names

or_none : (b : Bool) → (b || false) ≡ b
or_none true = refl
or_none false = refl

read_by : (b : Bool) (key : Key) (o : Option Key) → option_map_or (same_key key) (if b then o else None) false ≡ (b && option_map_or (same_key key) o false)
read_by true key o = refl
read_by false key o = refl

named_as : (key : Key) (s : Subfield) → is_valid_key key ≡ true → option_map_or (same_key key) (key_named s) false ≡ is_naming key s
named_as key s valid = read_by (s.code == 48) key (key_of_text (without_blanks s.text)) ∙ sym (naming_is key s valid)

pub noted_key : (key one : Key) (old new : List Key) (s : Subfield) → new ≡ old ++ one ∷ [] → Some one ≡ key_named s → is_valid_key key ≡ true
    → list_any (same_key key) new ≡ (list_any (same_key key) old || is_naming key s)
noted_key key one old new s is named valid =
    ap (list_any (same_key key)) is ∙ list_any-append (same_key key) old (one ∷ []) ∙ ap (λ b. list_any (same_key key) old || b)
    (or_none (same_key key one) ∙ ap (λ (o : Option Key). option_map_or (same_key key) o false) named ∙ named_as key s valid)

pub no_key_noted : (key : Key) (keys : List Key) (s : Subfield) → None ≡ key_named s → is_valid_key key ≡ true → list_any (same_key key) keys ≡ (list_any (same_key key) keys || is_naming key s)
no_key_noted key keys s named valid =
    sym (or_none (list_any (same_key key) keys))
    ∙ ap (λ b. list_any (same_key key) keys || b) (ap (λ (o : Option Key). option_map_or (same_key key) o false) named ∙ named_as key s valid)

-- what is no `Some` is `None`
pub none_left : {T : Type 0} (o : Option T) → ((x : T) → o ≡ Some x → ⊥) → None ≡ o
none_left None none = refl
none_left (Some x) none = absurd (none x refl)
