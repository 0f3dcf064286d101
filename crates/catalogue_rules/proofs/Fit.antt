-- What a choice links a field to: an authority that is found by its own key, of the field's kind, and bare where the field
-- isn't whole.
use Rattle.std.proofs.Common.{◌≡◌, ◌≢◌, ◌≤◌, Bool, true, false, ◌&&◌, ◌||◌, not, List, [], ◌∷◌, length, Option, Some, None, refl, sym, ap, ◌∙◌, if◌then◌else◌, arith}
use Rattle.std.specs.Prelude.{find, filter, IfSome, unwrap_or}
use Rattle.std.specs.List.{list_any}
use Rattle.std.specs.Option.{option_map}
use Rattle.marc_types.specs.declared.field.Subfield.{Subfield}
use Rattle.marc_types.specs.declared.key.Class.{Class}
use Rattle.marc_types.specs.declared.form.Kind.{Kind}
use Rattle.marc_types.specs.declared.form.Form.{Form}
use Rattle.marc_types.specs.Valid.{subfields_size}
use Rattle.marc_types.specs.Order.{kind_rank_same, form_Decides, same_form}
use Rattle.heading_fields.specs.Parts.{part, base_part, full_part}
use Rattle.marc_types.specs.Fields.{subfields_of}
use Rattle.heading_fields.specs.Numbers.{is_naming, is_blankless}
use Rattle.naco_form.specs.Form.{form_of}
use Rattle.entry_record.specs.Authority.{Linkable, is_bare, same_kind, has_form, base_form, full_form}
use Rattle.catalogue_rules.specs.State.{KeptField}
use Rattle.catalogue_rules.specs.Choice.{Choice, Link, Ambiguous, Unlinked, has_key, takes_subdivisions, has_subdivision, can_take, is_taken_whole, link_where, by_awaited, by_first_name, by_number, choice_among, is_established, is_see_from_form, by_form, by_full_form, asks_base, by_base_form, choice}
use Rattle.catalogue_rules.proofs.Elements.{Each, each_weaker, each_filter, find_found, if_some_or, if_some_then}

-- an authority among others: it is found by its key, and its key, heading and forms are as those of records
pub record IsFit (authorities : List Linkable) (c : Linkable) : Type 0 where
  pub found : find (has_key c.key) authorities ≡ Some c
  pub blankless : is_blankless c.key ≡ true
  pub code : length c.key.code ≤ 16
  pub number : length c.key.number ≤ 64
  pub heading_part : base_part c.kind c.heading ≢ []
  pub formed : has_form c.heading c.kind ≡ true
  pub short : subfields_size (part true c.kind (subfields_of c.heading)) ≤ 512
  pub established : c.established.kind ≡ c.kind
  pub see_from : Each (λ (f : Form). f.kind ≡ c.kind) c.see_from

-- a link that a field may be given
pub record IsGood (authorities : List Linkable) (class : Class) (kind : Kind) (h : KeptField) (c : Linkable) (whole : Bool) : Type 0 where
  pub fit : IsFit authorities c
  pub kind_is : kind ≡ c.kind
  pub bare : (whole || is_bare c) ≡ true
  pub takes : whole ≡ true → takes_subdivisions class h ≡ true
  pub never_less : whole ≡ false → (h.tie.whole && takes_subdivisions class h) ≡ false

abbrev pub IfLink : (Linkable → Bool → Type 0) → Choice → Type 0
IfLink P (Link c whole) = P c whole
IfLink P (Ambiguous keys) = Unit {0}
IfLink P Unlinked = Unit {0}

and_first : (a b : Bool) → (a && b) ≡ true → a ≡ true
and_first true b h = refl
and_first false b h = h

and_second : (a b : Bool) → (a && b) ≡ true → b ≡ true
and_second true b h = h
and_second false b h = cc

pub same_kind_is : (a b : Kind) → same_kind a b ≡ true → a ≡ b
same_kind_is a b h = kind_rank_same a b (grind arith)

taken_bare : (t b w s : Bool) → (t || b) ≡ true → ((t && (w || s || not b)) || b) ≡ true
taken_bare true true true s h = refl
taken_bare true true false true h = refl
taken_bare true true false false h = refl
taken_bare true false true s h = refl
taken_bare true false false true h = refl
taken_bare true false false false h = refl
taken_bare false b w s h = h

taken_takes : (t x : Bool) → (t && x) ≡ true → t ≡ true
taken_takes true x h = refl
taken_takes false x h = h

taken_never_less : (t b w s : Bool) → (t && (w || s || not b)) ≡ false → (w && t) ≡ false
taken_never_less true b true s h = h
taken_never_less true b false s h = refl
taken_never_less false b true s h = refl
taken_never_less false b false s h = refl

good_taken : (authorities : List Linkable) (class : Class) (kind : Kind) (h : KeptField) (c : Linkable) → IsFit authorities c → can_take class kind h c ≡ true →
    IsGood authorities class kind h c (is_taken_whole class h c)
good_taken authorities class kind h c fit can =
    let t = takes_subdivisions class h in
    let b = is_bare c in
    record {
      fit = fit;
      kind_is = same_kind_is kind c.kind (and_first (same_kind kind c.kind) (t || b) can);
      bare = taken_bare t b h.tie.whole (not (has_subdivision h)) (and_second (same_kind kind c.kind) (t || b) can);
      takes = taken_takes t (h.tie.whole || not (has_subdivision h) || not b);
      never_less = taken_never_less t b h.tie.whole (not (has_subdivision h));
    }

good_found : (authorities : List Linkable) (class : Class) (kind : Kind) (h : KeptField) (found : Option Linkable) →
    ((c : Linkable) → found ≡ Some c → IsFit authorities c × (can_take class kind h c ≡ true)) →
    IfSome (option_map (λ c. Link c (is_taken_whole class h c)) found) (IfLink (IsGood authorities class kind h))
good_found authorities class kind h None ok = tt
good_found authorities class kind h (Some c) ok = let both = ok c refl in good_taken authorities class kind h c both.0 both.1

good_where : (test : Linkable → Bool) (authorities : List Linkable) (class : Class) (kind : Kind) (h : KeptField) → Each (IsFit authorities) authorities →
    IfSome (link_where test authorities class kind h) (IfLink (IsGood authorities class kind h))
good_where test authorities class kind h fits =
    let passes = λ (c : Linkable). test c && can_take class kind h c in
    good_found authorities class kind h (find passes authorities)
    (λ c e. let both = find_found (IsFit authorities) passes authorities c fits e in (both.0, and_second (test c) (can_take class kind h c) both.1))

good_first_name : (authorities : List Linkable) (class : Class) (kind : Kind) (h : KeptField) → Each (IsFit authorities) authorities → (subs : List Subfield) →
    IfSome (by_first_name authorities class kind h subs) (IfLink (IsGood authorities class kind h))
good_first_name authorities class kind h fits [] = tt
good_first_name authorities class kind h fits (s ∷ subs) =
    if_some_or (IfLink (IsGood authorities class kind h)) (link_where (λ c. is_naming c.key s) authorities class kind h) (by_first_name authorities class kind h subs)
    (good_where (λ c. is_naming c.key s) authorities class kind h fits) (good_first_name authorities class kind h fits subs)

good_number : (authorities : List Linkable) (class : Class) (kind : Kind) (h : KeptField) → Each (IsFit authorities) authorities →
    IfSome (by_number authorities class kind h) (IfLink (IsGood authorities class kind h))
unfolding by_number
good_number authorities class kind h fits =
    if_some_or (IfLink (IsGood authorities class kind h)) (by_awaited authorities class kind h) (by_first_name authorities class kind h (subfields_of h.field))
    (if_some_then (IfLink (IsGood authorities class kind h)) (λ key. link_where (has_key key) authorities class kind h) h.tie.awaits
    (λ key. good_where (has_key key) authorities class kind h fits))
    (good_first_name authorities class kind h fits (subfields_of h.field))

among : (P : Linkable → Bool → Type 0) (whole : Bool) (xs : List Linkable) → Each (λ c. P c whole) xs → IfSome (choice_among whole xs) (IfLink P)
among P whole [] a = tt
among P whole (c ∷ []) a = a.0
among P whole (c ∷ other ∷ more) a = tt

pub formed_of : (kind : Kind) (subs : List Subfield) → (form_of kind subs).kind ≡ kind
unfolding form_of
formed_of kind subs = refl

established_kind : (authorities : List Linkable) (form : Form) (c : Linkable) → IsFit authorities c → is_established form c ≡ true → form.kind ≡ c.kind
established_kind authorities form c fit e = ap (λ (f : Form). f.kind) ((form_Decides form c.established).0 e) ∙ fit.established

any_kind_at : (form : Form) (kind : Kind) (f : Form) (b rest : Bool) → same_form form f ≡ b → f.kind ≡ kind → (rest ≡ true → form.kind ≡ kind) → (b || rest) ≡ true → form.kind ≡ kind
any_kind_at form kind f true rest s e ih x = ap (λ (g : Form). g.kind) ((form_Decides form f).0 s) ∙ e
any_kind_at form kind f false rest s e ih x = ih x

any_kind_is : (form : Form) (kind : Kind) (forms : List Form) → Each (λ (f : Form). f.kind ≡ kind) forms → list_any (same_form form) forms ≡ true → form.kind ≡ kind
any_kind_is form kind [] a e = cc
any_kind_is form kind (f ∷ forms) a e =
    any_kind_at form kind f (same_form form f) (list_any (same_form form) forms) refl a.0 (any_kind_is form kind forms a.1) e

good_form : (P : Linkable → Bool → Type 0) (authorities list : List Linkable) (whole : Bool) (form : Form) →
    Each (λ c. IsFit authorities c × (form.kind ≡ c.kind → P c whole)) list → IfSome (by_form list whole form) (IfLink P)
unfolding by_form
good_form P authorities list whole form ok =
    let R = λ (c : Linkable). IsFit authorities c × (form.kind ≡ c.kind → P c whole) in
    if_some_or (IfLink P) (choice_among whole (filter (is_established form) list)) (choice_among whole (filter (is_see_from_form form) list))
    (among P whole (filter (is_established form) list)
    (each_weaker (λ (c : Linkable). R c × (is_established form c ≡ true)) (λ (c : Linkable). P c whole)
    (λ c r. r.0.1 (established_kind authorities form c r.0.0 r.1)) (filter (is_established form) list) (each_filter R (is_established form) list ok)))
    (among P whole (filter (is_see_from_form form) list)
    (each_weaker (λ (c : Linkable). R c × (is_see_from_form form c ≡ true)) (λ (c : Linkable). P c whole)
    (λ c r. r.0.1 (any_kind_is form c.kind c.see_from r.0.0.see_from r.1)) (filter (is_see_from_form form) list) (each_filter R (is_see_from_form form) list ok)))

good_full : (authorities : List Linkable) (class : Class) (kind : Kind) (h : KeptField) → Each (IsFit authorities) authorities → (takes : Bool) → takes_subdivisions class h ≡ takes →
    IfSome (if takes then by_form authorities true (full_form kind class h.field) else None) (IfLink (IsGood authorities class kind h))
good_full authorities class kind h fits false e = tt
good_full authorities class kind h fits true e =
    let P = IsGood authorities class kind h in
    let form = full_form kind class h.field in
    good_form P authorities authorities true form
    (each_weaker (IsFit authorities) (λ c. IsFit authorities c × (form.kind ≡ c.kind → P c true))
    (λ c fit. (
      fit,
      λ same. record {
        fit = fit;
        kind_is = sym (formed_of kind (full_part kind class h.field)) ∙ same;
        bare = refl;
        takes = λ w. e;
        never_less = λ w. cc;
      },
    )) authorities fits)

not_whole : (w x t : Bool) → (not w && x) ≡ true → (w && t) ≡ false
not_whole true x t e = cc
not_whole false x t e = refl

good_base : (authorities : List Linkable) (class : Class) (kind : Kind) (h : KeptField) → Each (IsFit authorities) authorities → (asks : Bool) → asks_base class h ≡ asks →
    IfSome (if asks then by_form (filter is_bare authorities) false (base_form kind h.field) else None) (IfLink (IsGood authorities class kind h))
good_base authorities class kind h fits false e = tt
good_base authorities class kind h fits true e =
    let P = IsGood authorities class kind h in
    let form = base_form kind h.field in
    good_form P authorities (filter is_bare authorities) false form
    (each_weaker (λ c. IsFit authorities c × (is_bare c ≡ true)) (λ c. IsFit authorities c × (form.kind ≡ c.kind → P c false))
    (λ c both. (
      both.0,
      λ same. record {
        fit = both.0;
        kind_is = sym (formed_of kind (base_part kind h.field)) ∙ same;
        bare = both.1;
        takes = λ w. cc;
        never_less = λ w. not_whole h.tie.whole (not (takes_subdivisions class h) || has_subdivision h) (takes_subdivisions class h) e;
      },
    )) (filter is_bare authorities) (each_filter (IsFit authorities) is_bare authorities fits))

else_unlinked : (P : Linkable → Bool → Type 0) (o : Option Choice) → IfSome o (IfLink P) → IfLink P (unwrap_or o Unlinked)
else_unlinked P None h = tt
else_unlinked P (Some x) h = h

-- a choice is a good link, or none
pub good_choice : (authorities : List Linkable) (class : Class) (kind : Kind) (h : KeptField) → Each (IsFit authorities) authorities →
    IfLink (IsGood authorities class kind h) (choice authorities class kind h)
unfolding choice
good_choice authorities class kind h fits =
    let P = IfLink (IsGood authorities class kind h) in
    let number = by_number authorities class kind h in
    let full = by_full_form authorities class kind h in
    let base = by_base_form authorities class kind h in
    else_unlinked (IsGood authorities class kind h) _
    (if_some_or P number _ (good_number authorities class kind h fits)
    (if_some_or P full base (good_full authorities class kind h fits (takes_subdivisions class h) refl)
    (good_base authorities class kind h fits (asks_base class h) refl)))
